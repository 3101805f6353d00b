-- What serves private functions alone; no promise rests on it.
pub mod Adding
pub mod ChangeRows
pub mod Children
pub mod Clauses
pub mod PendingRows
pub mod RemarkRows
pub mod SubmissionRows
pub mod EachItem
