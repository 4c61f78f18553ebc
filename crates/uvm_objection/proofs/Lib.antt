pub mod Adding
pub mod Beginning
pub mod ByTotals
mod Common
pub mod Drains
pub mod Finding
pub mod Growing
pub mod Objecting
pub mod Passed
pub mod Passing
pub mod Places
pub mod Settling
pub mod Staying
pub mod Summing
pub mod Sums
pub mod Trees
