pub mod Meeting
pub mod Imports
pub mod Exports
pub mod Handled
pub mod StreamsServed
pub mod Sendings
pub mod Streams
pub mod OfApi
