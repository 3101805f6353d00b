pub mod PathOrder
pub mod WordTests
pub mod SendingLemmas
pub mod Kin
mod SeenMore
pub mod Maps
pub mod Written
mod WholeLemmas
pub mod LineLemmas
pub mod LineSays
pub mod Cuts
pub mod Feeding
pub mod OneMoreLine
pub mod Counting
pub mod FrontEnds
pub mod InputTexts
mod Rising
pub mod Reported
pub mod Flushed
