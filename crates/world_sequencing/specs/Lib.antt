pub mod SequencesMatch
pub mod Arbiters
pub mod ArbitersMatch
pub mod GrantIndexes
