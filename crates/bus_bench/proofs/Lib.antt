pub mod Reports
pub mod NoJob
