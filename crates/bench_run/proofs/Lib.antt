mod Common
pub mod Determined
pub mod Ends
pub mod Goings
pub mod Lives
pub mod Texts
pub mod Words
