pub mod Fatals
pub mod Logs
pub mod Objects
pub mod Origins
pub mod Outcomes
pub mod Passages
pub mod Relations
pub mod Sources
