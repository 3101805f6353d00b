pub mod Among
pub mod FilingRows
