-- The results of a report server that contracts see, whatever its representation.
pub use Rattle.uvm_report.specs.Representation.{Representation, severity_at, level_at, actions_at, limit_of, counts_of, has_room}
