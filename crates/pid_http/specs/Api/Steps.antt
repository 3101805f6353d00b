-- What serves private functions alone; no promise rests on it.
pub mod NoFloats
pub mod Making
pub mod Inserting
