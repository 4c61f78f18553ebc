-- What follows about the log before from what may come next (`IsNow`), and from each entry that comes (`Comes`).
use Rattle.std.specs.Prelude.{◌≡◌, ◌≤◌, ℕ, true, false, is_some, List, ◌∷◌, Option, Some, None}
use Rattle.std.specs.List.{list_any}
use Rattle.uvm_phase.specs.declared.phases.Phase.{Phase}
use Rattle.uvm_phase.specs.Phases.{same_phase}
use Rattle.uvm_acts.specs.declared.acts.Who.{Who}
use Rattle.uvm_acts.specs.declared.acts.Who.TheVariants as who
use Rattle.uvm_acts.specs.declared.acts.Call.{Call}
use Rattle.uvm_acts.specs.declared.acts.Call.TheVariants as calls
use Rattle.uvm_acts.specs.declared.acts.Act.{Act}
use Rattle.uvm_object.specs.declared.entries.Outcome.{Outcome}
use Rattle.uvm_object.specs.declared.entries.Outcome.TheVariants.{Made, Started}
use Rattle.uvm_object.specs.declared.entries.Origin.{Origin}
use Rattle.uvm_object.specs.declared.entries.Grant as entries
use Rattle.uvm_object.specs.declared.entries.Entry.{Entry}
use Rattle.uvm_object.specs.declared.entries.Entry.TheVariants.{Begin, End, Time, Heard, Did, Locked, Granted, Passed, Drained}
use Rattle.bench_script.specs.Scripts.{ScriptValue}
use Rattle.bench_history.specs.declared.needs.Need as declared
use Rattle.bench_history.specs.declared.stages.RunStage.TheVariants.{Ended}
use Rattle.bench_history.specs.EventTargets.{Event}
use Rattle.bench_history.specs.History.{stage_of, running, in_progress, next_call, remaining_acts, rest_of, performer_of}
use Rattle.bench_history.specs.Objections.{is_kept}
use Rattle.bench_history.specs.Dues.{first_due}
use Rattle.bench_history.specs.Passing.{next_passed}
use Rattle.bench_history.specs.Arbitration.{next_locked, next_served}
use Rattle.bench_history.specs.Effects.{Needs, effect_of}
use Rattle.bench_history.specs.Cases.{Next, Exactly, Answer, Need, Grant, Nothing, by_act, chosen_at, phase_to_begin}
use Rattle.bench_history.specs.Next.{Allows}
use Rattle.bench_history.specs.Laws.{IsDue, IsDrainDue, IsServing}

-- time passes to the event that is due first, and not beyond the time limit
pub record IsPassing (script : ScriptValue) (history : List Entry) (time : ℕ) : Type 0 where
  pub within : time ≤ script.time_limit
  pub event : Event
  pub first : first_due script history ≡ Some event
  pub time_is : event.time ≡ time

-- the phase that was begun last ends: no phase is to begin, and no objection keeps it
pub record IsEnding (script : ScriptValue) (history : List Entry) (phase : Phase) : Type 0 where
  pub runs : running (stage_of history) ≡ Some phase
  pub last : phase_to_begin script.runtime (stage_of history) ≡ None
  pub quiet : is_kept script phase history ≡ false

-- an outcome by which no component is made and no sequence is started
abbrev pub NotMade : Outcome → Type 0
NotMade (Made type_name) = ⊥
NotMade (Started id) = ⊥
NotMade outcome = Unit {0}

-- an action is the first that remains, and it has its outcome immediately, without an object that is made
pub record IsAtOnce (script : ScriptValue) (history : List Entry) (performer : Who) (outcome : Outcome) (act : Act) : Type 0 where
  pub performer_is : performer ≡ performer_of history
  pub left : remaining_acts script history ≡ act ∷ rest_of (remaining_acts script history)
  pub plain : NotMade outcome
  pub comes : by_act script history (performer_of history) act ≡ Exactly (Did performer outcome act)

-- an action is the first that remains, and it needs an object
pub record IsNeeding (script : ScriptValue) (history : List Entry) (need : declared.Need) (made : Outcome) (performer : Who) (act : Act) : Type 0 where
  pub performer_is : performer ≡ performer_of history
  pub left : remaining_acts script history ≡ act ∷ rest_of (remaining_acts script history)
  pub effect : effect_of script history (performer_of history) act ≡ Needs need made

-- an action is the first that remains, and this outcome of it is allowed
pub record IsActEntry (script : ScriptValue) (history : List Entry) (performer : Who) (outcome : Outcome) (act : Act) : Type 0 where
  pub performer_is : performer ≡ performer_of history
  pub left : remaining_acts script history ≡ act ∷ rest_of (remaining_acts script history)
  pub comes : Allows (by_act script history (performer_of history) act) (Did performer outcome act)

-- a component is the next to receive the call of an active phase
pub record IsTurn (history : List Entry) (hearer : Who) (call : Call) : Type 0 where
  pub phase : Phase
  pub node : ℕ
  pub hearer_is : hearer ≡ who.Node node
  pub call_is : call ≡ calls.Phase phase
  pub going : list_any (same_phase phase) (in_progress (stage_of history)) ≡ true
  pub turn : next_call phase history ≡ Some node

-- a call is next: a call with an origin is due now, and a call without one is that of an active phase
abbrev pub IsAsked : ScriptValue → List Entry → Who → Call → Option Origin → Type 0
IsAsked script history hearer call (Some origin) = IsDue script history hearer (Some call) origin
IsAsked script history hearer call None = IsTurn history hearer call

-- an item is granted at the next sequencer that serves its driver, to the sequence chosen there; the grant has a random number if one is consumed
pub record IsGranted (history : List Entry) (node : ℕ) (grant : entries.Grant) : Type 0 where
  pub served : next_served history ≡ Some (node, is_some grant.word)
  pub chosen : chosen_at history node grant.word ≡ Some grant.id

-- the log before an entry that alone may come next is as this entry requires
abbrev pub IsAlone : ScriptValue → List Entry → Entry → Type 0
IsAlone script history (Begin phase) = phase_to_begin script.runtime (stage_of history) ≡ Some phase
IsAlone script history (End phase) = IsEnding script history phase
IsAlone script history (Time time) = IsPassing script history time
IsAlone script history (Heard hearer origin call acts) = ⊥
IsAlone script history (Did performer outcome act) = IsAtOnce script history performer outcome act
IsAlone script history (Locked node id) = next_locked history ≡ Some (node, id)
IsAlone script history (Granted node grant) = ⊥
IsAlone script history (Passed fifo passage) = next_passed history ≡ Some (fifo, passage)
IsAlone script history (Drained node origin) = IsDrainDue script history node origin
IsAlone script history entry = Unit {0}

-- the log before what may come next is as this requires
abbrev pub IsNow : ScriptValue → List Entry → Next → Type 0
IsNow script history (Exactly entry) = IsAlone script history entry
IsNow script history (Answer hearer call origin) = IsAsked script history hearer call origin
IsNow script history (Need need made performer act) = IsNeeding script history need made performer act
IsNow script history (Grant node drawn chosen) = IsServing history node drawn chosen
IsNow script history Nothing = stage_of history ≡ Ended

-- the log before an entry that comes next is as this entry requires
abbrev pub Comes : ScriptValue → List Entry → Entry → Type 0
Comes script history (Heard hearer origin call acts) = IsAsked script history hearer call origin
Comes script history (Did performer outcome act) = IsActEntry script history performer outcome act
Comes script history (Granted node grant) = IsGranted history node grant
Comes script history entry = IsAlone script history entry
