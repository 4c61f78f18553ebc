pub mod Breakages
pub mod Files
pub mod Scripts
