mod Common
mod Determined
mod Firsts
mod Ran
pub mod ReadRuns
