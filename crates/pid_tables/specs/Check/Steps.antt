-- What serves private functions alone; no promise rests on it.
pub mod AuthorSets
pub mod Clauses
pub mod Keeping
pub mod Labels
pub mod Lacking
pub mod NameSets
pub mod NumberSets
pub mod PathSets
pub mod PlaceSets
pub mod Reading
pub mod NamesRead
pub mod Shapes
pub mod Asking
