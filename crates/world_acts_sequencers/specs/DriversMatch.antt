-- The effects of actions of drivers and sequences at sequencers.
use Rattle.std.specs.Prelude.{◌≡◌, ℕ, Bool, true, nat_eq, is_some, List, [], ◌∷◌, ◌++◌, slice_get, filter, not, Option, Some, None, IsSome, option_and_then, Result, Ok, Err, if◌then◌else◌}
use Rattle.std.specs.HashMap.{get}
use Rattle.uvm_phase.specs.Dues.{in_order}
use Rattle.uvm_tlm.specs.declared.ends.PortKind.TheVariants.{Seq}
use Rattle.uvm_tlm.specs.Wirings.{WiringValue, targets_of}
use Rattle.uvm_sequencer.specs.Drivers.{grant_of, is_try}
use Rattle.uvm_sequences.specs.Sequences.{finished, name_at}
use Rattle.uvm_sequencer.specs.Sequencers.{after_leave}
use Rattle.uvm_sequencer.specs.declared.drivers.How.{How}
use Rattle.uvm_sequencer.specs.declared.drivers.How.TheVariants.{Try}
use Rattle.uvm_acts.specs.Acts.{node_of}
use Rattle.uvm_object.specs.declared.fatals.Fatal.{Fatal}
use Rattle.uvm_object.specs.declared.entries.Outcome.{Outcome}
use Rattle.uvm_object.specs.declared.entries.Outcome.TheVariants.{Done, Waits}
use Rattle.bench_history.specs.declared.requesters.DriverPort.{DriverPort}
use Rattle.bench_history.specs.Dues.{is_of_one, call_in, calls_of_item}
use Rattle.bench_history.specs.declared.event_targets.DueCall.{DueCall}
use Rattle.bench_history.specs.EventTargets.{Event}
use Rattle.bench_history.specs.History.{in_task}
use Rattle.bench_history.specs.Refusals.{driving_refusal}
use Rattle.world_sequencing.specs.declared.arbiters.Reached.{Reached}
use Rattle.world_services.specs.declared.services.Services.{Services}
use Rattle.world_sequencing.specs.SequencesMatch.{start_record_at}
use Rattle.world_state.specs.CallsMatch.{is_told, living_numbered}
use Rattle.world_sequencing.specs.Arbiters.{ArbiterValue, ChangesAt, ArbiterMap, at_sequencer}
use Rattle.world_sequencing.specs.GrantIndexes.{LearnsAt, known_at}
use Rattle.world_wiring.specs.Ports.{port_in}
use Rattle.uvm_acts.specs.declared.acts.Call.TheVariants as call
use Rattle.world_sequencing.specs.declared.start_records.StartRecord as kept

-- a port with the sequencer at a node, if there is a sequencer
abbrev pub if_kept : ArbiterMap → ℕ → ℕ → Option Reached
if_kept arbiters port node = if is_some (get nat_eq arbiters node) then Some (record { port = port; sequencer = node }) else None

-- a port with the sequencer that it reaches, if its first target is one
abbrev pub reached_at : WiringValue → ArbiterMap → ℕ → Option Reached
reached_at wiring arbiters port = option_and_then (if_kept arbiters port) (slice_get (targets_of wiring port) 0)

-- the performer's correctly connected seq port of a name with the sequencer that it reaches
abbrev pub reached_in : Services → List ℕ → Option Reached
reached_in services name = option_and_then (reached_at services.wiring services.arbiters) (port_in services.tree.nodes services.wiring services.answer.performer Seq name)

-- the performer reaches a sequencer through its seq port, in a phase that takes time; otherwise why it does not
abbrev pub IsReached : Services → List ℕ → Result Reached Fatal → Type 0
IsReached services name (Ok reached) = (in_task services.answer.phase ≡ true) × (reached_in services name ≡ Some reached) × IsSome (get nat_eq services.arbiters reached.sequencer)
IsReached services name (Err fatal) = (refusal : Option Fatal) → driving_refusal services.answer.phase (is_some (reached_in services name)) refusal ≡ Some fatal

-- the outcome of a driver's request that waits
abbrev pub waiting_outcome : How → Outcome
waiting_outcome Try = Waits true
waiting_outcome how = Done

-- after an action at a sequencer, without a report: a request can be granted there, and at no other sequencer
pub record IsContested (home : ℕ) (old new : Services) : Type 0 where
  pub rest : new ≡ record old { grant_index = new.grant_index; report_state = record old.report_state { newest = None } }
  pub nodes : new.grant_index.nodes.items ≡ home ∷ []
  pub knows : (n : ℕ) → known_at new.grant_index n ≡ known_at old.grant_index n

-- as `IsContested`, but no request there is known to be blocked
pub record IsContestedAnew (home : ℕ) (old new : Services) : Type 0 where
  pub rest : new ≡ record old { grant_index = new.grant_index; report_state = record old.report_state { newest = None } }
  pub nodes : new.grant_index.nodes.items ≡ home ∷ []
  pub learns : LearnsAt home 0 old.grant_index new.grant_index

-- the call that reports to the starter of a sequence that it has finished, in the phase in which it was started
abbrev pub finished_calls : Option kept.StartRecord → Option (List ℕ) → ℕ → List DueCall
finished_calls (Some start_record) (Some name) id = call_in start_record.phase start_record.starter (call.Finished name id) ∷ []
finished_calls (Some start_record) None id = []
finished_calls None name id = []

-- the call to a driver that there is no item, if the grant of its `try` is withdrawn; otherwise none
abbrev pub lapsed_item : Bool → Option DriverPort → List DueCall
lapsed_item lapses driver = if lapses then calls_of_item driver None else []

-- the call to the sequencer's driver that there is no item, if the end of a sequence withdraws the grant of a `try`; otherwise none
abbrev pub lapsed_calls : Option ArbiterValue → ℕ → List DueCall
lapsed_calls None id = []
lapsed_calls (Some a) id = lapsed_item (is_try (grant_of id a.sequencer.driver)) a.driver

-- the performer, a sequence, has finished by an action whose entry gets this place. Its events are cancelled, no action of its answer is left, and
-- its requests and locks are removed. The calls to its starter and to the driver are scheduled
pub record IsFinished (id place : ℕ) (old new : Services) : Type 0 where
  pub dues : (caused : List Event) → old.agenda.dues ≡ in_order caused → new.agenda.dues ≡
      in_order (living_numbered (is_told (finished id old.sequences).steps) old.time place 0
      (finished_calls (start_record_at old.start_records.items id) (name_at old.sequences.started id) id ++ lapsed_calls (get nat_eq old.arbiters (node_of old.answer.performer)) id)
      ++ filter (λ event. not (is_of_one (old.answer.performer ∷ []) event.owner)) caused)
  pub arbiters : ChangesAt (node_of old.answer.performer) (at_sequencer (after_leave id)) old.arbiters new.arbiters
  pub rest : new ≡ record old { agenda = new.agenda; sequences = finished id old.sequences; answer = record old.answer { noted = true }; arbiters = new.arbiters; grant_index = new.grant_index }
  pub nodes : new.grant_index.nodes.items ≡ node_of old.answer.performer ∷ []
  pub learns : LearnsAt (node_of old.answer.performer) 0 old.grant_index new.grant_index
