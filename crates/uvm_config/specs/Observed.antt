-- What the settings return, independent of their representation.
pub use Rattle.uvm_config.specs.Representation.{Representation, answer_at, value_at, accepted, IsSame}
