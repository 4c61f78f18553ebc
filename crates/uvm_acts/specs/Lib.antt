pub mod Acts
pub mod Answers
pub mod Copies
pub mod StoredActs
pub mod StoredCalls
pub mod PortActs
pub mod PortCalls
