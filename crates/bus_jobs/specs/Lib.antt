pub mod Commands
pub mod Faults
pub mod Verdicts
pub mod Debugging
pub mod Runs
pub mod Laws
