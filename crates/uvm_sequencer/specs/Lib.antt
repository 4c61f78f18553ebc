pub mod Choices
pub mod Drivers
pub mod Faults
pub mod Laws
pub mod Passed
pub mod Queues
pub mod Sequencers
-- internal definitions, which the function bodies use and no caller needs
pub mod Contending
pub mod Marks
pub mod Rooms
