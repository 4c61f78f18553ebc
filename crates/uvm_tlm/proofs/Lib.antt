pub mod Agreeing
mod Common
pub mod Drivers
pub mod Leads
pub mod Listed
pub mod Lists
pub mod Noted
pub mod Reached
pub mod Routes
pub mod Sets
pub mod Sources
pub mod Targets
pub mod Wired
