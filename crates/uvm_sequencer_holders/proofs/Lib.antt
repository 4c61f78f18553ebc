mod Common
pub mod Runs
