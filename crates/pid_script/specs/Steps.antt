-- What serves private functions alone; no promise rests on it.
pub mod LineRequests
pub mod Progress
pub mod Output
