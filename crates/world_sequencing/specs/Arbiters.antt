-- The sequencers of a testbench with their drivers, and the changes that calls make to them.
use Rattle.std.specs.Prelude.{◌≡◌, ℕ, Bool, ◌==◌, nat_eq, List, [], Option, Some, None, option_map, option_and_then, Result, Ok, if◌then◌else◌}
use Rattle.std.specs.List.{flat_map}
use Rattle.std.specs.Option.{option_or}
use Rattle.std.specs.declared.hash.FoldHasher.{FoldHasher}
use Rattle.std.specs.declared.hash.BuildHasherDefault.{BuildHasherDefault}
use Rattle.std.specs.HashMap.{HashMap, get}
use Rattle.uvm_glob.specs.Faults.{unless}
use Rattle.uvm_phase.specs.declared.phases.Phase.{Phase}
use Rattle.uvm_sequences.specs.declared.starts.SeqStep.{SeqStep}
use Rattle.uvm_sequencer.specs.declared.modes.Mode.{Mode}
use Rattle.uvm_sequencer.specs.Drivers.{loses_try}
use Rattle.uvm_sequencer.specs.declared.drivers.Asked.{Asked}
use Rattle.uvm_sequencer.specs.declared.drivers.How.{How}
use Rattle.uvm_sequences.specs.Sequences.{Start}
use Rattle.uvm_sequencer.specs.Sequencers.{SequencerValue, after_ask, after_phase, after_send, answer, candidates_at, is_live_at, lock_at, new_sequencer, ready_at, unlocked, with_grab, with_item, with_lock}
use Rattle.uvm_acts.specs.declared.acts.What.{What}
use Rattle.uvm_object.specs.declared.fatals.Fatal.{Fatal}
use Rattle.bench_history.specs.declared.requesters.DriverPort.{DriverPort}
use Rattle.bench_history.specs.declared.event_targets.DueCall.{DueCall}
use Rattle.bench_history.specs.Arbitration.{ends_ask}
use Rattle.bench_history.specs.Dues.{calls_of_item}
use Rattle.bench_history.specs.Refusals.{ask_refusal}
use Rattle.uvm_sequencer.specs.declared.drivers.Asked.TheVariants as asked
use Rattle.uvm_acts.specs.declared.acts.What.TheVariants as what

-- a sequencer, as the sequencer service holds it, and its driver. The wiring defines which port drives it, so the port is not part of this value
pub record ArbiterValue : Type 0 where
  pub sequencer : SequencerValue
  pub driver : Option DriverPort

-- the sequencers by their nodes
abbrev pub ArbiterMap : Type 0
ArbiterMap = HashMap ℕ ArbiterValue (BuildHasherDefault FoldHasher)

-- a new sequencer of a mode: it has no driver, no requests and no locks
abbrev pub new_arbiter : Mode → ArbiterValue
new_arbiter mode = record { sequencer = new_sequencer mode; driver = None }

-- the mode of a sequencer that is added; none for anything else
abbrev pub mode_of : What → Option Mode
mode_of (what.Sequencer mode) = Some mode
mode_of other = None

-- a sequencer of this mode is added at a node; without a mode nothing is added
abbrev pub AddsArbiter : Option Mode → ℕ → ArbiterMap → ArbiterMap → Type 0
AddsArbiter mode node old new = (n : ℕ) → get nat_eq new n ≡ option_or (if node == n then option_map new_arbiter mode else None) (get nat_eq old n)

-- the sequencer at one node changes, if there is one; the others stay
abbrev pub ChangesAt : ℕ → (ArbiterValue → ArbiterValue) → ArbiterMap → ArbiterMap → Type 0
ChangesAt node change old new = (n : ℕ) → get nat_eq new n ≡ (if node == n then option_map change (get nat_eq old n) else get nat_eq old n)

-- each sequencer changes
abbrev pub ChangesEach : (ArbiterValue → ArbiterValue) → ArbiterMap → ArbiterMap → Type 0
ChangesEach change old new = (n : ℕ) → get nat_eq new n ≡ option_map change (get nat_eq old n)

-- a change of the sequencer alone; the driver stays
abbrev pub at_sequencer : (SequencerValue → SequencerValue) → ArbiterValue → ArbiterValue
at_sequencer change a = record a { sequencer = change a.sequencer }

-- after a driver asked for an item: it waits, unless the answer is that there is nothing, which changes nothing
abbrev pub asked_at : DriverPort → How → Asked → ArbiterValue → ArbiterValue
asked_at driver how asked.Waits a = record { sequencer = after_ask how asked.Waits a.sequencer; driver = Some driver }
asked_at driver how asked.Nothing a = a

-- after a sequence requested to send an item, unless the request is rejected
abbrev pub requested_if : Option Fatal → ℕ → ℕ → ArbiterValue → ArbiterValue
requested_if None id priority a = at_sequencer (with_item id priority) a
requested_if (Some fatal) id priority a = a

-- after a sequence requested a lock, unless the request is rejected
abbrev pub locked_if : Option Fatal → ℕ → ArbiterValue → ArbiterValue
locked_if None id a = at_sequencer (with_lock id) a
locked_if (Some fatal) id a = a

-- after a sequence requested a lock before all other requests, unless the request is rejected
abbrev pub grabbed_if : Option Fatal → ℕ → ArbiterValue → ArbiterValue
grabbed_if None id a = at_sequencer (with_grab id) a
grabbed_if (Some fatal) id a = a

-- after a sequence released its latest lock, unless that is rejected
abbrev pub unlocked_if : Option Fatal → ℕ → ArbiterValue → ArbiterValue
unlocked_if None id a = at_sequencer (unlocked id) a
unlocked_if (Some fatal) id a = a

-- after a sequence sent its item, if it was granted
abbrev pub sent_if : Option How → ℕ → ArbiterValue → ArbiterValue
sent_if None id a = a
sent_if (Some how) id a = at_sequencer (after_send id how) a

-- after the end of a phase: the requests and locks of sequences that have ended are removed, and so is what the driver asked for in that phase
abbrev pub ended_at : Phase → List (Option SeqStep) → ArbiterValue → ArbiterValue
ended_at phase steps a = at_sequencer (after_phase steps (ends_ask phase a.driver)) a

-- the call to the driver that a `try` got no item, if the end of a phase withdraws the grant of that `try`; otherwise none
abbrev pub lapsed_in : Phase → List (Option SeqStep) → Option ArbiterValue → List DueCall
lapsed_in phase steps None = []
lapsed_in phase steps (Some a) = if loses_try (ends_ask phase a.driver) (is_live_at steps) a.sequencer.driver then calls_of_item a.driver None else []

-- the calls to drivers whose `try` loses its grant with the end of a phase, in the order of these nodes
abbrev pub lapsed_with : Phase → List (Option SeqStep) → ArbiterMap → List ℕ → List DueCall
lapsed_with phase steps arbiters order = flat_map (λ node. lapsed_in phase steps (get nat_eq arbiters node)) order

-- the result of a driver's request for an item at a sequencer: its answer, or the reason why the request is refused
abbrev pub asked_in : List Start → How → Option ArbiterValue → Result Asked Fatal
asked_in started how None = Ok asked.Waits
asked_in started how (Some a) = unless (ask_refusal a.sequencer) (answer how (candidates_at started a.sequencer))

-- the sequence whose lock a sequencer grants next, if any
abbrev pub lock_in : List Start → Option ArbiterValue → Option ℕ
lock_in started a = option_and_then (λ a. lock_at started a.sequencer) a

-- none if a sequencer can grant no item request now, otherwise whether a random number decides which
abbrev pub ready_in : List Start → Option ArbiterValue → Option Bool
ready_in started a = option_and_then (λ a. ready_at started a.sequencer) a

-- a node with the sequence whose lock its sequencer grants next, if any
abbrev pub locked_in : List Start → ArbiterMap → ℕ → Option (ℕ × ℕ)
locked_in started arbiters node = option_map (λ id. (node, id)) (lock_in started (get nat_eq arbiters node))

-- a node whose sequencer can grant an item request now, with whether a random number decides which
abbrev pub served_in : List Start → ArbiterMap → ℕ → Option (ℕ × Bool)
served_in started arbiters node = option_map (λ drawn. (node, drawn)) (ready_in started (get nat_eq arbiters node))
