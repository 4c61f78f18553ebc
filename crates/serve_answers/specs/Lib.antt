pub mod Answers
pub mod Readers
pub mod Errors
pub mod Laws
pub mod LinesErrors
pub mod Lines
