pub mod FormFields
pub mod Fields
pub mod Numbers
