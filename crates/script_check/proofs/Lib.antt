mod Common
pub mod Keys
pub mod Placed
