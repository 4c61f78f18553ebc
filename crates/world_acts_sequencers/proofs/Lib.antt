pub mod Begun
pub mod Common
pub mod Driven
pub mod Finished
pub mod Seated
pub mod Stepped
