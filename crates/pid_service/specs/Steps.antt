-- What serves private functions alone; no promise rests on it.
pub mod Asking
pub mod Exporting
pub mod Exports
pub mod ExportSinks
pub mod Importing
pub mod ItemTexts
pub mod Judging
pub mod TextSinks
pub mod Obeying
pub mod Renewing
pub mod Opening
pub mod Running
pub mod PendingNumbers
pub mod KeptChanges
pub mod KeptItems
pub mod KeptChildren
