-- How an entry stores an outcome.
use Rattle.std.specs.Prelude.{Some, None}
use Rattle.uvm_object.specs.declared.entries.Outcome.{Outcome}
use Rattle.uvm_object.specs.declared.entries.Outcome.TheVariants as outcome
use Rattle.uvm_object.specs.declared.entries.CompactOutcome.{CompactOutcome}
use Rattle.uvm_object.specs.declared.entries.CompactOutcome.TheVariants.{Done, Made, Started, NoValue, Value, Stored, NoItem, Taken, Waits, Finished, Refused}

-- the outcome that an entry stores in compact form
abbrev pub outcome_of : CompactOutcome → Outcome
outcome_of Done = outcome.Done
outcome_of (Made room) = outcome.Made room.value
outcome_of (Started id) = outcome.Started id
outcome_of NoValue = outcome.Value None
outcome_of (Value value) = outcome.Value (Some value)
outcome_of (Stored stored) = outcome.Stored stored
outcome_of NoItem = outcome.Taken None
outcome_of (Taken item) = outcome.Taken (Some item.value)
outcome_of (Waits waits) = outcome.Waits waits
outcome_of Finished = outcome.Finished
outcome_of (Refused fatal) = outcome.Refused fatal
