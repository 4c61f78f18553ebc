pub mod SeedRuns
pub mod Tallies
