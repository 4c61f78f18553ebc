pub mod DriversMatch
pub mod SequencersKinds
