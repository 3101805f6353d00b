pub mod AmongLemmas
pub mod FilingLists
pub mod NumberLists
pub mod PageLemmas
pub mod ServingLemmas
