pub mod Bytes
pub mod ChildTexts
mod Common
pub mod Ends
pub mod Literals
pub mod Meaning
pub mod Numbers
pub mod Parts
pub mod PathTexts
pub mod Splits
pub mod TextOrders
pub mod Totals
