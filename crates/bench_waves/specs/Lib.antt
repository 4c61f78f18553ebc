pub mod Changes
pub mod Dumps
pub mod Signals
pub mod Values
pub mod Waves
