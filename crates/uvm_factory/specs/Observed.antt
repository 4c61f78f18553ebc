-- What a factory returns, independent of its representation.
pub use Rattle.uvm_factory.specs.Representation.{Representation, types_of, step_at, next_at, made_at, resolved, IsSame}
