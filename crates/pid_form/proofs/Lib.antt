pub mod FieldTexts
mod FirstField
pub mod Numerals
pub mod PlainNumbers
