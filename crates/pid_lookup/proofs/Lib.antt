pub mod AnswerLaws
pub mod FieldTexts
pub mod FoundTexts
pub mod Questions
pub mod Remembered
mod Rows
pub mod Answered
pub mod Asking
pub mod Entries
pub mod CacheAgreeing
