pub mod CallsMatch
pub mod ObjectionsMatch
pub mod Agendas
pub mod Faults
pub mod Phased
pub mod ReportsMatch
pub mod ReportLines
