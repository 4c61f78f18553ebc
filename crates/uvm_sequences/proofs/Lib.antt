mod Common
pub mod Living
pub mod Numbers
pub mod Steps
pub mod Unders
