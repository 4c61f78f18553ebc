pub mod FifoStates
pub mod FifosMatch
pub mod WiringMatch
pub mod Ports
