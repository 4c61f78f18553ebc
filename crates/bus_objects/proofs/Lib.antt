mod Common
pub mod Functions
pub mod LastWritten
pub mod Printed
pub mod Shown
