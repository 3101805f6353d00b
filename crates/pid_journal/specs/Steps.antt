-- What serves private functions alone; no promise rests on it.
pub mod Notes
pub mod Faults
pub mod Parts
pub mod Ways
pub mod Living
pub mod Lending
pub mod Places
pub mod Comparing
pub mod Following
pub mod Segments
pub mod Reads
pub mod Reopening
