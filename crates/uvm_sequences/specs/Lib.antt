pub mod Laws
pub mod Sequences
-- internal definitions, which the function bodies use and no caller needs
pub mod Representation
