pub mod Preparing
pub mod Writing
