-- What serves private functions alone; no promise rests on it.
pub mod CheckedWords
pub mod Shapes
pub mod MomentLaws
pub mod ReadLaws
pub mod Moments
