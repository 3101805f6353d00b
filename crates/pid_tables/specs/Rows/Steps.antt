-- What serves private functions alone; no promise rests on it.
pub mod Answers
pub mod Both
pub mod Moving
pub mod Ranges
pub mod Shows
pub mod Writes
pub mod Unread
pub mod Queries
pub mod Standings
pub mod Turns
pub mod Clauses
pub mod Faults
pub mod LabelRows
pub mod Batches
pub mod Within
