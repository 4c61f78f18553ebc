pub mod Answering
pub mod CommandLemmas
mod CommandNames
mod Common
pub mod Determined
pub mod HelpLemmas
pub mod LevelLemmas
pub mod PlainLemmas
pub mod RowLemmas
