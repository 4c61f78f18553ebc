-- The services, and that they match the log.
use Rattle.std.specs.Prelude.{◌≡◌, ℕ, ◌<◌, ◌≤◌, Bool, true, false, ◌^◌, List, [], ◌∷◌, length, drop, reverse, slice_get, Option, Some, None}
use Rattle.std.specs.Option.{ForSome}
use Rattle.std.specs.List.{list_any}
use Rattle.uvm_glob.specs.Paths.{path_text}
use Rattle.uvm_factory.specs.declared.overrides.Override.{Override}
use Rattle.uvm_factory.specs.Faults.{Types}
use Rattle.uvm_factory.specs.Overrides.{type_step}
use Rattle.uvm_factory.specs.Observed.{Representation, types_of, step_at}
use Rattle.uvm_config.specs.Answers.{Setting, strongest_answer}
use Rattle.uvm_phase.specs.declared.phases.Phase.{Phase}
use Rattle.uvm_phase.specs.Phases.{is_task}
use Rattle.script_tables.specs.declared.drains.Drain.{Drain}
use Rattle.world_state.specs.Phased.{ObjectionsValue, nodes_in}
use Rattle.uvm_acts.specs.Acts.{node_of}
use Rattle.uvm_acts.specs.declared.acts.Who.{Who}
use Rattle.uvm_acts.specs.declared.acts.Act.{Act}
use Rattle.uvm_object.specs.declared.entries.Entry.{Entry}
use Rattle.uvm_object.specs.declared.entries.Entry.TheVariants.{Heard}
use Rattle.bench_script.specs.Scripts.{ScriptValue}
use Rattle.world_services.specs.declared.services.AnswerCursor.{AnswerCursor}
use Rattle.world_services.specs.declared.services.Services.{Services}
use Rattle.world_services.specs.PhaseCursors.{ArePhaseCursors}
use Rattle.bench_history.specs.Configuration.{settings_of}
use Rattle.bench_history.specs.Dues.{scheduled_events, delivered_causes, due_events}
use Rattle.bench_history.specs.History.{act_phase, stage_of, now_of, nodes_of, components_of, components_called, test_creation, remaining_acts, performer_of, overrides_of, ends_build, ended_of}
use Rattle.bench_history.specs.Objections.{objections_of}
use Rattle.bench_history.specs.Reports.{report_commands, newest_fate, refuses_test}
use Rattle.world_state.specs.ReportsMatch.{IsReportState}
use Rattle.world_state.specs.ObjectionsMatch.{IsObjecting, AreEvents}
use Rattle.uvm_tlm.specs.Wirings.{is_closed}
use Rattle.bench_history.specs.Wires.{ends_connect, wiring_of}
use Rattle.world_wiring.specs.WiringMatch.{IsClosedPast, IsClosing, IsConnecting}
use Rattle.world_wiring.specs.FifosMatch.{AreFifoStates, ArePassed, AreToSettle}
use Rattle.uvm_tree.specs.Sorted.{path_order}
use Rattle.bench_history.specs.Sequences.{starts_of, finished_of}
use Rattle.world_sequencing.specs.SequencesMatch.{IsSequencing, enders_of}
use Rattle.world_sequencing.specs.GrantIndexes.{AreKnown}
use Rattle.world_sequencing.specs.ArbitersMatch.{IsArbitrating, ledger_at}
use Rattle.bench_history.specs.Ports.{fifo_size}
use Rattle.bench_history.specs.Passing.{answered_at, is_no_put, is_put, items_entered, items_left, passing_at, puts_asked, fifo_state_at, takes_asked}
use Rattle.world_state.specs.Agendas.{IsAgenda}
use Rattle.uvm_config.specs.Observed as config
use Rattle.uvm_objection.specs.Nodes as objection

-- the factory has these types, and each of its override steps is that of these overrides
pub record IsFactory (types : Types) (overrides : List Override) (kept : Representation) : Type 0 where
  pub types_are : types_of kept ≡ types
  pub steps : (type_id : ℕ) (path : List (List ℕ)) → step_at kept type_id path ≡ type_step overrides type_id (path_text path)

-- the actions of an entry that records an answer; none for every other entry
abbrev pub acts_in : Option Entry → List Act
acts_in (Some (Heard performer cause call acts)) = acts
acts_in entry = []

-- the actions of the answer at a place of the log; without a place, the creation of the test
abbrev pub acts_at : Act → List Entry → Option ℕ → List Act
acts_at test_creation history None = test_creation ∷ []
acts_at test_creation history (Some place) = acts_in (slice_get (reverse history) place)

-- no action is left after a note, nor after the performer has finished
abbrev pub unless_noted : Bool → List Act → List Act
unless_noted true acts = []
unless_noted false acts = acts

-- the answer cursor: the performer and the phase of the last answer, and the place of its entry. It counts the actions of the answer, and those
-- that have an entry. After a note, or after the performer has finished, no action is left
pub record IsAnswerCursor (test_creation : Act) (history : List Entry) (left : List Act) (last : Who) (acting : Option Phase) (kept : AnswerCursor) : Type 0 where
  pub performer : kept.performer ≡ last
  pub phase : kept.phase ≡ acting
  pub rest : unless_noted kept.noted (drop kept.done (acts_at test_creation history kept.place)) ≡ left
  pub within : ForSome kept.place (λ place. place < length history)
  pub count : kept.count ≡ length (acts_at test_creation history kept.place)
  pub few : kept.done ≤ kept.count

-- the stored settings give, for each path and field, the value that the list gives, and are as many
pub record IsSettings (settings : List Setting) (kept : config.Representation) : Type 0 where
  pub answers : (path : List (List ℕ)) (asked : List ℕ) → config.answer_at kept path asked ≡ strongest_answer settings (path_text path) asked
  pub count : config.accepted kept ≡ length settings

-- the objection of each phase that takes time has these nodes, and the drain times are those of the script
pub record AreObjecting (drains : List Drain) (nodes : Phase → List objection.Node) (count entries : ℕ) (objections : ObjectionsValue) : Type 0 where
  pub given : objections.given ≡ drains
  pub each : (phase : Phase) → is_task phase ≡ true → IsObjecting (nodes phase) count entries (nodes_in objections phase)

-- each part of the services is what the log says
pub record ServicesMatch (script : ScriptValue) (history : List Entry) (services : Services) : Type 0 where
  pub stage : services.stage ≡ stage_of history
  pub time : services.time ≡ now_of history
  pub early : services.time ≤ 10 ^ 18
  pub tree : services.tree.nodes ≡ nodes_of history
  pub past_connect : services.past_connect ≡ list_any ends_connect history
  pub connecting : IsConnecting (nodes_of history) (wiring_of history) services.wiring
  pub closing : IsClosing script history (is_closed services.wiring)
  pub closed_past : IsClosedPast (list_any ends_connect history) (is_closed services.wiring)
  pub fifo_states : AreFifoStates (fifo_state_at history) services.fifo_states
  pub passed : ArePassed (length history) (fifo_size (wiring_of history)) (items_entered history) (items_left history) (puts_asked history) (answered_at is_put history) (takes_asked history) (answered_at is_no_put history)
  pub fifos_to_settle : AreToSettle (passing_at history) (path_order (nodes_of history)) services.fifos_to_settle.items
  pub arbitrating : IsArbitrating (length history) (nodes_of history) (starts_of history) (finished_of history) (ended_of history) (ledger_at history) services.arbiters services.grant_index
  pub sequencing : IsSequencing (starts_of history) (finished_of history) (ended_of history) (enders_of history) services.sequences services.start_records.items
  pub objections : AreObjecting script.drains (λ phase. objections_of script phase history) (length (nodes_of history)) (length history) services.objections
  pub factory : IsFactory script.types (overrides_of script history) services.factory
  pub phase_cursors : ArePhaseCursors (stage_of history) (nodes_of history) (components_of history) (λ phase. components_called phase history) services.phase_cursors
  pub answer : IsAnswerCursor (test_creation script) history (remaining_acts script history) (performer_of history) (act_phase history) services.answer
  pub speaks : node_of (performer_of history) < length (nodes_of history)
  pub built : services.built ≡ list_any ends_build history
  pub report_state : IsReportState (report_commands script history) (newest_fate script history) services.report_state
  pub settings : IsSettings (settings_of script history) services.settings
  pub agenda : IsAgenda (scheduled_events script history) (delivered_causes history) (ended_of history) (finished_of history) (length history) services.agenda.dues
  pub events : AreEvents (λ phase. objections_of script phase history) (due_events script history)
  pub test_refused : services.test_refused ≡ list_any refuses_test history

-- other requests may be known to be blocked, and each of them is; nothing else has changed
pub record HasPassed (old new : Services) : Type 0 where
  pub rest : new ≡ record old { grant_index = new.grant_index }
  pub nodes : new.grant_index.nodes ≡ old.grant_index.nodes
  pub known : AreKnown old.sequences.started old.arbiters new.grant_index
