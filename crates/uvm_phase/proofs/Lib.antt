pub mod Before
mod Common
pub mod Ordered
pub mod Owning
pub mod Places
