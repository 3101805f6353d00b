pub mod Conditions
pub mod Checking
pub mod Shapes
pub mod Queries
pub mod Steps
