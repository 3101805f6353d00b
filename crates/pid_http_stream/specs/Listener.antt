pub mod Streams
pub mod Servings
