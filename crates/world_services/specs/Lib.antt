pub mod OpenPorts
pub mod CreationsMatch
pub mod Services
pub mod PhaseCursor
pub mod PhaseCursors
pub mod Creations
pub mod ActResults
