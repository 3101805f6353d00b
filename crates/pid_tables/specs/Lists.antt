pub mod Pages
pub mod EachItem
pub mod Children
pub mod ByNumber
pub mod Clauses
pub mod Laws
pub mod Steps
