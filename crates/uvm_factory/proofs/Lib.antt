pub mod Rows
pub mod Ends
pub mod Given
pub mod Standings
