pub mod Ends
pub mod Faults
pub mod Fifos
pub mod Laws
pub mod Wirings
-- internal definitions, which the function bodies use and no caller needs
pub mod Graphs
pub mod Indexed
pub mod Representation
pub mod NodeLists
