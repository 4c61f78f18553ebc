pub mod Laws
pub mod Lines
pub mod PartLaws
pub mod ForwardActs
pub mod Sound
pub mod Words
