pub mod Known
pub mod Answering
pub mod Serving
pub mod Sending
pub mod Streams
pub mod Steps
pub mod Api
