pub mod Dumps
pub mod Ticks
pub mod Waved
