pub mod PathReadingLemmas
mod Shapes
