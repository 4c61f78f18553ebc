pub mod Children
pub mod Cursors
pub mod Faults
pub mod Nodes
mod Rooms
pub mod Families
pub mod Walks
pub mod Sorted
-- definitions that only the bodies use, and no caller cites
pub mod ChildCursors
