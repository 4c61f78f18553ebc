pub mod Common
pub mod FifoPorts
pub mod Outlets
