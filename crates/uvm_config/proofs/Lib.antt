pub mod Given
pub mod Strongest
pub mod OneField
pub mod Asked
pub mod Put
