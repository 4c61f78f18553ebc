-- The cases of the kernel: each definition is what comes next in one case, if the case applies. Each case assumes that the cases above it
-- in `next_of` do not apply.
use Rattle.std.specs.Prelude.{ℕ, Bool, List, [], ◌∷◌, length, map, nat_lt, Option, Some, None, option_map, option_and_then, if◌then◌else◌}
use Rattle.uvm_glob.specs.Lists.{first_given}
use Rattle.uvm_phase.specs.declared.phases.Phase.{Phase}
use Rattle.uvm_phase.specs.declared.phases.Phase.TheVariants.{Build, Connect, Run, PreReset, PostShutdown}
use Rattle.uvm_phase.specs.Phases.{phase_after}
use Rattle.uvm_acts.specs.Acts.{node_of}
use Rattle.uvm_acts.specs.declared.acts.Who.{Who}
use Rattle.uvm_acts.specs.declared.acts.Who.TheVariants as who
use Rattle.uvm_acts.specs.declared.acts.Call.{Call}
use Rattle.uvm_acts.specs.declared.acts.Call.TheVariants as call
use Rattle.uvm_acts.specs.declared.acts.Act.{Act}
use Rattle.uvm_object.specs.declared.fatals.Fatal.TheVariants.{TooManyActs, Timeout, Stall}
use Rattle.uvm_object.specs.declared.entries.Outcome.{Outcome}
use Rattle.uvm_object.specs.declared.entries.Reason.{Reason}
use Rattle.uvm_object.specs.declared.entries.Reason.TheVariants as reason
use Rattle.uvm_object.specs.declared.entries.Origin.{Origin}
use Rattle.uvm_object.specs.declared.entries.Passage.{Passage}
use Rattle.uvm_object.specs.declared.entries.Entry.{Entry}
use Rattle.uvm_object.specs.declared.entries.Entry.TheVariants.{Begin, End, Time, Did, Locked, Passed, Drained, Note, Over}
use Rattle.bench_script.specs.Scripts.{ScriptValue}
use Rattle.bench_history.specs.declared.needs.Need as declared
use Rattle.bench_history.specs.declared.event_targets.EventTarget.{EventTarget}
use Rattle.bench_history.specs.declared.stages.RunStage.{RunStage}
use Rattle.bench_history.specs.declared.stages.RunStage.TheVariants.{Before, During, After, Ended}
use Rattle.bench_history.specs.EventTargets.{Event, who_of}
use Rattle.bench_history.specs.Limits.{most_acts}
use Rattle.bench_history.specs.History.{is_of_phase, next_call, performer_of}
use Rattle.bench_history.specs.Objections.{is_kept}
use Rattle.bench_history.specs.Dues.{first_due}
use Rattle.bench_history.specs.Wires.{next_unsound}
use Rattle.bench_history.specs.Effects.{Effect, Needs, ComesTo, permitted_effect, effect_of}
use Rattle.bench_history.specs.Arbitration.{sequencer_at}
use Rattle.bench_history.specs.Sequences.{sequences_of}
use Rattle.uvm_sequencer.specs.Sequencers.{choice_at}

-- what comes next: this entry, the answer to a call, an object for an action, a grant (and which sequence each random number selects), or nothing
pub data Next : Type 0 where
  Exactly : (entry : Entry) → Next
  Answer : (hearer : Who) → (call : Call) → (origin : Option Origin) → Next
  Need : (need : declared.Need) → (made : Outcome) → (performer : Who) → (act : Act) → Next
  Grant : (sequencer : ℕ) → (drawn : Bool) → (chosen : Option ℕ → Option ℕ) → Next
  Nothing : Next

-- the run has ended: nothing comes next
abbrev pub end_reached : RunStage → Option Next
end_reached Ended = Some Nothing
end_reached stage = None

-- the run is aborted: by a note, because the test was refused, or because a report asked for exit; only the end of the run comes next
abbrev pub giving_up : Option Reason → Option Next
giving_up why = option_map (λ why. Exactly (Over why)) why

-- a lock is granted
abbrev pub locking : Option (ℕ × ℕ) → Option Next
locking led = option_map (λ led. Exactly (Locked led.0 led.1)) led

-- the sequence to which a sequencer grants an item, by the random number if one decides
abbrev pub chosen_at : List Entry → ℕ → Option ℕ → Option ℕ
chosen_at history node word = option_and_then (λ s. choice_at (sequences_of history) s word) (sequencer_at history node)

-- a driver that waits is served: its sequencer grants an item
abbrev pub serving : List Entry → Option (ℕ × Bool) → Option Next
serving history served = option_map (λ served. Grant served.0 served.1 (chosen_at history served.0)) served

-- a requested transfer completes at a FIFO
abbrev pub passing : Option (ℕ × Passage) → Option Next
passing passed = option_map (λ passed. Exactly (Passed passed.0 passed.1)) passed

-- no action of an answer with too many actions is performed: a note comes instead, which leaves none of them
abbrev pub long_answer : List Entry → List Act → Option Next
long_answer history left = if nat_lt most_acts (length left) then Some (Exactly (Note TooManyActs (node_of (performer_of history)))) else None

-- an action needs an object first; otherwise it has its entry immediately, with its outcome
abbrev pub by_effect : Who → Act → Effect → Next
by_effect performer act (Needs need made) = Need need made performer act
by_effect performer act (ComesTo outcome) = Exactly (Did performer outcome act)

-- an action of a performer needs an object first, or has its entry, by `effect_of`
abbrev pub by_act : ScriptValue → List Entry → Who → Act → Next
by_act script history performer act = by_effect performer act (effect_of script history performer act)

-- an action that is open to its performer needs an object first, or has its entry, by `permitted_effect`
abbrev pub by_open : ScriptValue → List Entry → Who → Act → Next
by_open script history performer act = by_effect performer act (permitted_effect script history performer act)

-- the first of the remaining actions is next; the object that gave the answer performs it
abbrev pub first_act : ScriptValue → List Entry → List Act → Option Next
first_act script history [] = None
first_act script history (act ∷ acts) = Some (by_act script history (performer_of history) act)

-- the origin of a call: the cause of its event, and the phase
abbrev pub origin_of : Event → Origin
origin_of event = record { cause = event.cause; phase = event.phase }

-- the target of an event receives its call, or its drain ends
abbrev pub by_call : EventTarget → Option Call → Origin → Next
by_call owner (Some call) origin = Answer (who_of owner) call (Some origin)
by_call owner None origin = Exactly (Drained (node_of (who_of owner)) origin)

-- the event that is due happens
abbrev pub event_due : Option Event → Option Next
event_due due = option_map (λ event. by_call event.owner event.notice (origin_of event)) due

-- the call of an active phase to the component that is next in this phase
abbrev pub turn_in : List Entry → Phase → Option Next
turn_in history phase = option_map (λ node. Answer (who.Node node) (call.Phase phase) None) (next_call phase history)

-- the next call of the first of these phases in which a component has not yet received its call; the run phase precedes the run-time phase
abbrev pub phase_call : List Entry → List Phase → Option Next
phase_call history phases = first_given (map (turn_in history) phases)

-- in the connect phase, once each component has received its call, the next misconnected port is reported
abbrev pub port_check : List Entry → Option Phase → Option Next
port_check history phase = if is_of_phase Connect phase then option_map (λ port. Exactly (Note port.1 port.0)) (next_unsound history) else None

-- time passes to the first event that is due; if there is none the run stalls, and if it is due after the time limit the run times out
abbrev pub time_passes : ℕ → Option Event → Entry
time_passes limit None = Note Stall 0
time_passes limit (Some event) = if nat_lt limit event.time then Note Timeout 0 else Time event.time

-- the phase that was begun last ends, or time passes while an objection keeps it
abbrev pub phase_end : ScriptValue → List Entry → Option Phase → Option Next
phase_end script history phase = option_map (λ phase. Exactly (if is_kept script phase history then time_passes script.time_limit (first_due script history) else End phase)) phase

-- the phase to begin: the first, or the one after the phase that has ended. In the run phase it is the first of the run-time phases, if they are
-- to run; after the last of them none begins
abbrev pub phase_to_begin : Bool → RunStage → Option Phase
phase_to_begin runtime Before = Some Build
phase_to_begin runtime (During Run) = if runtime then Some PreReset else None
phase_to_begin runtime (After PostShutdown) = None
phase_to_begin runtime (After phase) = phase_after phase
phase_to_begin runtime stage = None

-- the phase to begin, if there is one, begins
abbrev pub phase_begin : Option Phase → Option Next
phase_begin phase = option_map (λ phase. Exactly (Begin phase)) phase

-- the last phase has ended: the run ends
abbrev pub finish : Option Next
finish = Some (Exactly (Over reason.Finished))
