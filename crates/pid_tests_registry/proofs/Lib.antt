pub mod Fronts
pub mod Noting
