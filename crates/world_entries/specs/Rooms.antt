-- Reserved capacity for the entry of an action that needs an object.
use Rattle.std.specs.Prelude.{◌≡◌, ◌<◌, ℕ, List, Some, IsSome, IsTrue, vec_len, vec_capacity}
use Rattle.uvm_tree.specs.Nodes.{node_at}
use Rattle.uvm_acts.specs.Acts.{node_of}
use Rattle.uvm_object.specs.Logs.{LogValue}
use Rattle.uvm_report.specs.Observed.{has_room}
use Rattle.uvm_phase.specs.declared.phases.Phase.{Phase}
use Rattle.world_state.specs.Phased.{nodes_in, spare_in}
use Rattle.world_state.specs.ReportsMatch.{KeepsReportState}
use Rattle.world_services.specs.PhaseCursors.{AreSamePhaseCursors, HaveRoom}
use Rattle.world_services.specs.declared.services.Services.{Services}

-- nothing in the services has changed, except the reserved capacity
pub record GiveTheSame (old new : Services) : Type 0 where
  pub rest : new ≡ record old { tree = new.tree; objections = new.objections; phase_cursors = new.phase_cursors; sequences = new.sequences; start_records = new.start_records; agenda = new.agenda; report_state = new.report_state }
  pub nodes : new.tree.nodes ≡ old.tree.nodes
  pub objections : (phase : Phase) → nodes_in new.objections phase ≡ nodes_in old.objections phase
  pub drains : new.objections.given ≡ old.objections.given
  pub phase_cursors : AreSamePhaseCursors old.phase_cursors new.phase_cursors
  pub sequences : (new.sequences.started ≡ old.sequences.started) × (new.sequences.steps ≡ old.sequences.steps)
  pub start_records : new.start_records.items ≡ old.start_records.items
  pub dues : new.agenda.dues ≡ old.agenda.dues
  pub report_state : KeepsReportState old.report_state new.report_state

-- capacity is reserved for the entry of a creation or a start by the performer: for a node below the performer's, a sequence with its first call, a
-- report of this id, and the log entry
pub record HasRoomToMake (id : List ℕ) (log : LogValue) (services : Services) : Type 0 where
  pub log_spare : 0 < log.spare
  pub tree_spare : IsSome (node_at services.tree.nodes (node_of services.answer.performer)) → services.tree.spare ≡ Some (node_of services.answer.performer)
  pub objection_spare : (phase : Phase) → 0 < spare_in services.objections phase
  pub phase_cursors : HaveRoom services.phase_cursors
  pub sequence_spare : 0 < services.sequences.spare
  pub start_records : vec_len services.start_records < vec_capacity services.start_records
  pub agenda_spare : 0 < services.agenda.spare
  pub report_room : IsTrue (has_room services.report_state.reports id)
