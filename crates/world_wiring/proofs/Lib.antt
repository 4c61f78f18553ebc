pub mod Common
pub mod Connected
pub mod Found
pub mod Passed
pub mod Stored
pub mod Waiting
