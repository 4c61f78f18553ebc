pub mod NextTurns
pub mod Shown
pub mod Serving
