-- What must hold before an object is created, and its identity afterwards.
use Rattle.std.specs.Prelude.{◌≡◌, ◌<◌, ℕ, suc, true, false, List, length, Option, Some, None, IsSome, vec_len, vec_capacity}
use Rattle.std.specs.Option.{ForSome}
use Rattle.uvm_sequences.specs.Sequences.{numbered}
use Rattle.uvm_acts.specs.declared.acts.Who.{Who}
use Rattle.uvm_acts.specs.declared.acts.Act.{Act}
use Rattle.uvm_object.specs.declared.entries.Outcome.{Outcome}
use Rattle.uvm_object.specs.declared.entries.Outcome.TheVariants.{Made, Started}
use Rattle.uvm_acts.specs.Acts.{node_of}
use Rattle.bench_history.specs.Sequences.{sequence_in}
use Rattle.bench_history.specs.History.{created_name, in_task}
use Rattle.bench_history.specs.Refusals.{child_refusal, is_none_at_all}
use Rattle.bench_history.specs.Laws.{IsCreation}
use Rattle.world_services.specs.PhaseCursors.{HaveRoom}
use Rattle.world_services.specs.declared.services.Services.{Services}
use Rattle.uvm_phase.specs.declared.phases.Phase.{Phase}
use Rattle.world_state.specs.Phased.{nodes_in, spare_in}
use Rattle.world_state.specs.ObjectionsMatch.{AreNumbered}
use Rattle.world_sequencing.specs.SequencesMatch.{IsStart, priority_given, home_for}
use Rattle.uvm_acts.specs.declared.acts.Who.TheVariants as who

-- an action can start a sequence: on this sequencer, in a phase that takes time, with a priority of at least 1. Its performer is a component or a
-- started sequence, and capacity is reserved for the sequence and its first call
pub record CanBegin (act : Act) (home : ℕ) (services : Services) : Type 0 where
  pub starts : IsStart act
  pub home_is : home_for services.tree.nodes services.answer.performer act ≡ Some home
  pub task : in_task services.answer.phase ≡ true
  pub positive : is_none_at_all (priority_given act) ≡ false
  pub parent : ForSome (sequence_in services.answer.performer) (λ above. IsSome (numbered services.sequences.started above))
  pub sequence_spare : 0 < services.sequences.spare
  pub start_records : vec_len services.start_records < vec_capacity services.start_records
  pub agenda_spare : 0 < services.agenda.spare

-- an action can create a component: under a free name below the performer's node, before the end of build, with reserved capacity
pub record CanGrow (act : Act) (services : Services) : Type 0 where
  pub creates : IsCreation act
  pub free : child_refusal services.tree.nodes (node_of services.answer.performer) (created_name act) ≡ None
  pub building : services.built ≡ false
  pub tree_spare : services.tree.spare ≡ Some (node_of services.answer.performer)
  pub speaks : node_of services.answer.performer < length services.tree.nodes
  pub numbered : (phase : Phase) → AreNumbered (nodes_in services.objections phase) (length services.tree.nodes)
  pub objection_spare : (phase : Phase) → 0 < spare_in services.objections phase
  pub phase_cursors : HaveRoom services.phase_cursors

-- an action can create its object: `CanBegin` if a sequencer is given, otherwise `CanGrow`
abbrev pub CanMake : Act → Option ℕ → Services → Type 0
CanMake act None services = CanGrow act services
CanMake act (Some home) services = CanBegin act home services

-- the identity of the new object: the component at the next node, or the next sequence on this sequencer
abbrev pub who_made : Services → Option ℕ → Who
who_made services None = who.Node (length services.tree.nodes)
who_made services (Some home) = who.Sequence home (suc (length services.sequences.started))

-- the outcome of the action that creates it: the type of the component, or the number of the sequence
abbrev pub outcome_made : Services → List ℕ → Option ℕ → Outcome
outcome_made services type_name None = Made type_name
outcome_made services type_name (Some home) = Started (suc (length services.sequences.started))
