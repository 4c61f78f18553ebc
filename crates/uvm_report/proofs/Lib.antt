pub mod Chosen
pub mod Commanded
mod Common
pub mod Counted
pub mod Given
pub mod Ids
pub mod Judged
pub mod Literals
pub mod OneMore
pub mod PlainLines
pub mod Replaced
