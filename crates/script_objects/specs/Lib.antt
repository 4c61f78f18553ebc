pub mod Answers
pub mod Faults
pub mod FirstFaults
pub mod Laws
pub mod Rules
pub mod Scripted
pub mod Tables
pub mod Seats
