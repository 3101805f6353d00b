-- Serve private functions alone; no promise rests on these.
pub mod Answering
pub mod Asking
pub mod FoundTexts
pub mod Styles
pub mod Words
pub mod AskedNames
pub mod Kept
pub mod CacheHashing
