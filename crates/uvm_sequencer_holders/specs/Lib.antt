pub mod Holding
-- internal definitions, which the function bodies use and no caller needs
pub mod Runs
