pub mod Answering
mod Common
mod Entries
mod FirstFaults
mod Functions
mod Single
mod Sorting
mod Types
mod Unique
pub mod SeatChanges
