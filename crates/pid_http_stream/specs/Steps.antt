-- What serves private functions alone; no promise rests on it.
pub mod Bodies
pub mod BodyLaws
pub mod Intakes
pub mod LineScans
pub mod Loop
pub mod Connections
