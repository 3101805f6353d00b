pub mod Files
pub mod NamedFiles
pub mod Lines
pub mod Sessions
pub mod Jobs
pub mod Journaling
pub mod Steps
