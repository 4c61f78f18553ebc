mod Common
pub mod Custody
pub mod Failing
pub mod Given
pub mod Held
pub mod Lists
pub mod Lives
pub mod Newcomers
pub mod Numbers
mod Places
pub mod Preserved
pub mod Rising
pub mod Seated
mod Sitters
pub mod Sitting
pub mod Stepped
pub mod Supplied
