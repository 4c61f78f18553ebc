pub mod Entries
pub mod KnownNumbers
pub mod Replays
