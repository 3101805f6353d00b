-- What serves private functions alone; no promise rests on it.
pub mod Going
pub mod Handling
pub mod Replying
