pub mod Benches
pub mod Laws
pub mod Objects
pub mod Runs
pub mod Verdicts
