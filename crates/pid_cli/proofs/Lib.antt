pub mod Runs
pub mod Exports
