pub mod Openings
pub mod Exports
pub mod Migrations
pub mod Files
