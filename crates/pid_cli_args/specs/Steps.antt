-- What serves private functions alone; no promise rests on it.
pub mod Tables
