pub mod Faults
pub mod Cores
pub mod NextActions
pub use Rattle.world_views.specs.Worlds
