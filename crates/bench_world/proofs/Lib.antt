pub mod Closed
mod Common
pub mod Going
pub mod Makeable
pub mod Pendings
pub mod Waits
