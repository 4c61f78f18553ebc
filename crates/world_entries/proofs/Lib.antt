pub mod Common
pub mod Ended
pub mod Granted
pub mod Heard
