pub mod Journals
pub mod Doubts
pub mod Pairs
pub mod Openings
pub mod Laws
pub mod Steps
