pub mod Coming
pub mod KernelEntries
pub mod Rooms
pub mod StoredActs
