pub mod Between
pub mod Changed
pub mod Childless
pub mod Places
pub mod Removed
mod Rows
pub mod Labelled
