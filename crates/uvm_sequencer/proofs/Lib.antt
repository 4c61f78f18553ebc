mod Common
pub mod Contenders
pub mod Granting
pub mod Hands
pub mod Marks
pub mod Nesting
pub mod Ordering
pub mod Passing
pub mod Singles
pub mod Slots
pub mod Starting
pub mod Taking
pub mod Waiting
