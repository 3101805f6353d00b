pub mod Filings
pub mod KeptNumbers
pub mod Steps
