pub mod Phases
pub mod Dues
pub mod Owners
pub mod Laws
