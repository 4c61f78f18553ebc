pub mod Faults
pub mod Laws
pub mod Nodes
pub mod Totals
-- definitions that only the bodies use, and no caller cites
pub mod Changes
pub mod Representation
pub mod Places
pub mod Walks
