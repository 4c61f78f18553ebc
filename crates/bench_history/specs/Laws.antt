-- What holds of all logs, or of all logs in which each entry was next, and of what comes next in them.
use Rattle.std.specs.Prelude.{◌≡◌, ◌<◌, ◌≤◌, ◌+◌, ◌⊎◌, ℕ, suc, Bool, true, false, not, ◌&&◌, ◌||◌, filter, is_none, List, [], ◌∷◌, ◌++◌, length, reverse, take, Option, Some, None, option_map, IsSome, IfSome, All, Contains}
use Rattle.uvm_phase.specs.declared.phases.Phase.TheVariants.{Build, Connect, EndOfElaboration, StartOfSimulation, PreReset, Reset, PostReset, PreConfigure, Configure, PostConfigure, PreMain, Main, PostMain, PreShutdown, Shutdown, PostShutdown, Run, Extract, Check, Report, Final}
use Rattle.uvm_phase.specs.declared.phases.Phase.{Phase}
use Rattle.uvm_phase.specs.Phases.{is_runtime, is_task, runtime_phases, same_phase}
use Rattle.std.specs.List.{list_any}
use Rattle.uvm_sequencer.specs.Drivers.{hand_of, is_idle}
use Rattle.uvm_sequences.specs.Sequences.{numbered}
use Rattle.uvm_tree.specs.Nodes.{Node, AreNodes, node_at, path_at}
use Rattle.uvm_tree.specs.declared.nodes.NodeKind.TheVariants.{Component}
use Rattle.uvm_report.specs.Counts.{issued_number}
use Rattle.uvm_report.specs.Commands.{report_counts}
use Rattle.uvm_acts.specs.Acts.{node_of}
use Rattle.uvm_object.specs.Objects.{exchanged_in, life_of}
use Rattle.uvm_acts.specs.declared.acts.Who.{Who}
use Rattle.uvm_acts.specs.declared.acts.Who.TheVariants as who
use Rattle.uvm_acts.specs.declared.acts.Call.{Call}
use Rattle.uvm_acts.specs.declared.acts.Call.TheVariants as calls
use Rattle.uvm_acts.specs.declared.acts.Act.{Act}
use Rattle.uvm_acts.specs.declared.acts.Act.TheVariants.{Create, Start}
use Rattle.uvm_object.specs.declared.entries.Outcome.{Outcome}
use Rattle.uvm_object.specs.declared.entries.Outcome.TheVariants.{Made, Started}
use Rattle.uvm_object.specs.declared.entries.Origin.{Origin}
use Rattle.uvm_object.specs.declared.entries.Passage.{Passage}
use Rattle.uvm_object.specs.declared.entries.Entry.{Entry}
use Rattle.uvm_object.specs.declared.entries.Entry.TheVariants.{Begin, End, Did, Locked, Passed, Drained}
use Rattle.bench_script.specs.Scripts.{ScriptValue}
use Rattle.bench_history.specs.declared.needs.Need as declared
use Rattle.bench_history.specs.declared.stages.RunStage.{RunStage}
use Rattle.bench_history.specs.declared.stages.RunStage.TheVariants.{Before, During, After, Ended}
use Rattle.bench_history.specs.EventTargets.{Event, who_of}
use Rattle.bench_history.specs.History.{act_phase, in_progress, in_task, is_of_phase, now_of, stage_of, running, nodes_of, components_of, created_name, remaining_acts, head_of, rest_of, performer_of, test_creation, is_built, is_over, next_call, ended_of}
use Rattle.bench_history.specs.Dues.{first_due, due_now}
use Rattle.bench_history.specs.Wires.{is_past_connect}
use Rattle.bench_history.specs.Arbitration.{asked_in, driver_requester, driver_state, mode_at, next_locked, next_served}
use Rattle.bench_history.specs.Passing.{next_passed}
use Rattle.bench_history.specs.Reports.{report_commands}
use Rattle.bench_history.specs.Refusals.{child_refusal, starting_refusal}
use Rattle.bench_history.specs.Sequences.{StartRecord, all_begun, starts_of, is_live, leaving_of, phase_begun, sequences_of, start_by}
use Rattle.bench_history.specs.Effects.{starting_now}
use Rattle.bench_history.specs.Cases.{Next, Exactly, Answer, Need, Grant, Nothing, by_act, chosen_at, origin_of}
use Rattle.bench_history.specs.Next.{next_of, need_in, IsAct, IsNext, EachIsNext}

-- the phases in the order in which they end: the run phase follows the run-time phases
abbrev pub ending_order : List Phase
ending_order = Build ∷ Connect ∷ EndOfElaboration ∷ StartOfSimulation ∷ runtime_phases ++ Run ∷ Extract ∷ Check ∷ Report ∷ Final ∷ []

-- the place of a phase in that order, from 0
abbrev pub end_number : Phase → ℕ
end_number Build = 0
end_number Connect = 1
end_number EndOfElaboration = 2
end_number StartOfSimulation = 3
end_number PreReset = 4
end_number Reset = 5
end_number PostReset = 6
end_number PreConfigure = 7
end_number Configure = 8
end_number PostConfigure = 9
end_number PreMain = 10
end_number Main = 11
end_number PostMain = 12
end_number PreShutdown = 13
end_number Shutdown = 14
end_number PostShutdown = 15
end_number Run = 16
end_number Extract = 17
end_number Check = 18
end_number Report = 19
end_number Final = 20

-- how many phases of that order may have ended: those before the phase that began last; for the run phase, those before the run-time phases
abbrev pub next_number : RunStage → ℕ
next_number Before = 0
next_number (During Run) = end_number PreReset
next_number (During phase) = end_number phase
next_number (After phase) = end_number phase + 1
next_number Ended = length ending_order

-- a phase is run: it is not a run-time phase, or the run-time phases are run
abbrev pub is_run : Bool → Phase → Bool
is_run runtime phase = not (is_runtime phase) || runtime

-- the phase of this stage, if there is one, is run
abbrev pub is_run_at : Bool → RunStage → Bool
is_run_at runtime (During phase) = is_run runtime phase
is_run_at runtime (After phase) = is_run runtime phase
is_run_at runtime stage = true

-- the phases are in order: until the end of the run, those that have ended are the first in that order, each once
pub record ArePhasesInOrder (runtime : Bool) (history : List Entry) : Type 0 where
  pub run : is_run_at runtime (stage_of history) ≡ true
  pub are : (stage_of history ≡ Ended → ⊥) → ended_of history ≡ reverse (filter (is_run runtime) (take (next_number (stage_of history)) ending_order))
  pub before : All (λ phase. end_number phase < next_number (stage_of history)) (ended_of history)

-- law: phases go in their order (`ArePhasesInOrder`)
abbrev pub PhasesGoInOrder : Type 0
PhasesGoInOrder = (script : ScriptValue) (history : List Entry) → EachIsNext script history → ArePhasesInOrder script.runtime history

-- law: an active phase has not ended
abbrev pub PhasesInProgressAreOpen : Type 0
PhasesInProgressAreOpen = (script : ScriptValue) (history : List Entry) (phase : Phase) → EachIsNext script history → list_any (same_phase phase) (in_progress (stage_of history)) ≡ true → list_any (same_phase phase) (ended_of history) ≡ false

-- a phase, if there is one, has not ended
abbrev pub HasNotEnded : List Phase → Option Phase → Type 0
HasNotEnded ended phase = IfSome phase (λ one. list_any (same_phase one) ended ≡ false)

-- what belongs to a phase belongs to one of these phases
abbrev pub is_going : Option Phase → List Phase → Bool
is_going phase going = list_any (λ one. is_of_phase one phase) going

-- if the performer is a sequence, the next action belongs to the phase in which the sequence was started
abbrev pub IsInPhase : List Entry → Who → Type 0
IsInPhase history (who.Node node) = Unit {0}
IsInPhase history (who.Sequence home id) = phase_begun history id ≡ act_phase history

-- the phase of the next action, if any, is active and has not ended; for a sequence it is the phase in which the sequence was started
pub record AreActsInPhase (script : ScriptValue) (history : List Entry) (act : Act) : Type 0 where
  pub going : (phase : Phase) → act_phase history ≡ Some phase → list_any (same_phase phase) (in_progress (stage_of history)) ≡ true
  pub unended : HasNotEnded (ended_of history) (act_phase history)
  pub own : (act ≡ test_creation script) ⊎ IsInPhase history (performer_of history)

-- law: if an action is next, it is in its phase (`AreActsInPhase`)
abbrev pub ActsAreInPhase : Type 0
ActsAreInPhase = (script : ScriptValue) (history : List Entry) (act : Act) → EachIsNext script history → IsAct (next_of script history) → remaining_acts script history ≡ act ∷ rest_of (remaining_acts script history) → AreActsInPhase script history act

-- law: a phase that begins becomes the last of the active phases
abbrev pub PhasesBeginBehind : Type 0
PhasesBeginBehind = (script : ScriptValue) (history : List Entry) (phase : Phase) → next_of script history ≡ Exactly (Begin phase) → in_progress (During phase) ≡ in_progress (stage_of history) ++ phase ∷ []

-- law: the phase that ends is the one that was begun last and has not ended
abbrev pub RunningPhasesEnd : Type 0
RunningPhasesEnd = (script : ScriptValue) (history : List Entry) (phase : Phase) → next_of script history ≡ Exactly (End phase) → running (stage_of history) ≡ Some phase

-- an object is one of these components, not a sequence
abbrev pub IsComponent : List ℕ → Who → Type 0
IsComponent components (who.Node node) = Contains components node
IsComponent components (who.Sequence home id) = ⊥

-- a sequence is active, and was started on this sequencer
pub record IsLiving (history : List Entry) (id home : ℕ) : Type 0 where
  pub lives : is_live history id ≡ true
  pub home_is : option_map (λ start_record. start_record.start.home) (numbered (starts_of history) id) ≡ Some home

-- an object is a component of the log or an active sequence
abbrev pub IsThere : List Entry → Who → Type 0
IsThere history (who.Node node) = Contains (components_of history) node
IsThere history (who.Sequence home id) = IsLiving history id home

-- law: the receiver of the next call is a component or an active sequence
abbrev pub AskedAreThere : Type 0
AskedAreThere = (script : ScriptValue) (history : List Entry) (hearer : Who) (call : Call) (origin : Option Origin) → EachIsNext script history → next_of script history ≡ Answer hearer call origin → IsThere history hearer

-- law: the performer of the next action is a component or an active sequence, unless the action is the creation of the test
abbrev pub PerformersAreThere : Type 0
PerformersAreThere = (script : ScriptValue) (history : List Entry) (act : Act) → EachIsNext script history → IsAct (next_of script history) → remaining_acts script history ≡ act ∷ rest_of (remaining_acts script history) → (act ≡ test_creation script) ⊎ IsThere history (performer_of history)

-- law: each component is a node of the tree
abbrev pub ComponentsAreNodes : Type 0
ComponentsAreNodes = (script : ScriptValue) (history : List Entry) → EachIsNext script history → All (λ node. node < length (nodes_of history)) (components_of history)

-- a node other than the top node, of kind component
abbrev pub IsComponentNode : List Node → ℕ → Type 0
IsComponentNode nodes node = (0 < node) × (node < length nodes) × (option_map (λ node. node.kind) (node_at nodes node) ≡ Some Component)

-- the components are exactly the nodes of kind component other than the top node
pub record AreComponentNodes (nodes : List Node) (components : List ℕ) : Type 0 where
  pub each : All (IsComponentNode nodes) components
  pub whole : (node : ℕ) → IsComponentNode nodes node → Contains components node

-- law: the components of a log are its nodes of kind component other than the top node
abbrev pub ComponentsByKind : Type 0
ComponentsByKind = (history : List Entry) → AreComponentNodes (nodes_of history) (components_of history)

-- law: each sequencer on which a sequence was started is a node of the tree
abbrev pub HomesAreNodes : Type 0
HomesAreNodes = (script : ScriptValue) (history : List Entry) → EachIsNext script history → All (λ start_record. start_record.start.home < length (nodes_of history)) (starts_of history)

-- a call or the end of a drain is the event that is due first, at its time
pub record IsDue (script : ScriptValue) (history : List Entry) (hearer : Who) (notice : Option Call) (origin : Origin) : Type 0 where
  pub event : Event
  pub first : first_due script history ≡ Some event
  pub time : event.time ≡ now_of history
  pub hearer_is : who_of event.owner ≡ hearer
  pub notice_is : event.notice ≡ notice
  pub origin_is : origin_of event ≡ origin

-- the end of a drain at a node is the event that is due first, at its time
pub record IsDrainDue (script : ScriptValue) (history : List Entry) (node : ℕ) (origin : Origin) : Type 0 where
  pub hearer : Who
  pub stands : node_of hearer ≡ node
  pub due : IsDue script history hearer None origin

-- a call is that of an active phase, to the component that is next in this phase
pub record HasTurn (history : List Entry) (hearer : Who) (call : Call) : Type 0 where
  pub phase : Phase
  pub call_is : call ≡ calls.Phase phase
  pub going : list_any (same_phase phase) (in_progress (stage_of history)) ≡ true
  pub next : next_call phase history ≡ Some (node_of hearer)

-- law: a call without an origin goes to the next component of an active phase (`HasTurn`)
abbrev pub CallsGoInTurn : Type 0
CallsGoInTurn = (script : ScriptValue) (history : List Entry) (hearer : Who) (call : Call) → next_of script history ≡ Answer hearer call None → HasTurn history hearer call

-- law: a call with an origin is the event that is due first, at its time
abbrev pub DueCallsGoInOrder : Type 0
DueCallsGoInOrder = (script : ScriptValue) (history : List Entry) (hearer : Who) (call : Call) (origin : Origin) → next_of script history ≡ Answer hearer call (Some origin) → IsDue script history hearer (Some call) origin

-- law: a drain that ends is the event that is due first, at its time
abbrev pub DrainsGoInOrder : Type 0
DrainsGoInOrder = (script : ScriptValue) (history : List Entry) (node : ℕ) (origin : Origin) → next_of script history ≡ Exactly (Drained node origin) → IsDrainDue script history node origin

-- law: the next transfer at a FIFO is the first that can be completed (`next_passed`)
abbrev pub PassagesGoInOrder : Type 0
PassagesGoInOrder = (script : ScriptValue) (history : List Entry) (fifo : ℕ) (passage : Passage) → next_of script history ≡ Exactly (Passed fifo passage) → next_passed history ≡ Some (fifo, passage)

-- law: a transfer that completes was requested in a phase that has not ended
abbrev pub PassagesAreInPhase : Type 0
PassagesAreInPhase = (script : ScriptValue) (history : List Entry) (fifo : ℕ) (passage : Passage) → next_of script history ≡ Exactly (Passed fifo passage) → list_any (same_phase passage.phase) (ended_of history) ≡ false

-- law: the requester of a transfer that completes is a component
abbrev pub WaitersAreComponents : Type 0
WaitersAreComponents = (script : ScriptValue) (history : List Entry) (fifo : ℕ) (passage : Passage) → EachIsNext script history → next_of script history ≡ Exactly (Passed fifo passage) → IsComponent (components_of history) passage.who

-- law: a lock that is granted is the first that can be granted (`next_locked`)
abbrev pub LocksGoInOrder : Type 0
LocksGoInOrder = (script : ScriptValue) (history : List Entry) (node id : ℕ) → next_of script history ≡ Exactly (Locked node id) → next_locked history ≡ Some (node, id)

-- law: a lock is granted to an active sequence that runs on that sequencer
abbrev pub LockersAreThere : Type 0
LockersAreThere = (script : ScriptValue) (history : List Entry) (node id : ℕ) → EachIsNext script history → next_of script history ≡ Exactly (Locked node id) → IsLiving history id node

-- a sequencer is the next to serve its driver (`next_served`), and `chosen_at` gives the sequence that it grants
pub record IsServing (history : List Entry) (node : ℕ) (drawn : Bool) (chosen : Option ℕ → Option ℕ) : Type 0 where
  pub served : next_served history ≡ Some (node, drawn)
  pub chosen_is : chosen ≡ chosen_at history node

-- law: an item is granted at the first sequencer in path order that can serve its driver (`IsServing`)
abbrev pub GrantsGoInOrder : Type 0
GrantsGoInOrder = (script : ScriptValue) (history : List Entry) (node : ℕ) (drawn : Bool) (chosen : Option ℕ → Option ℕ) → next_of script history ≡ Grant node drawn chosen → IsServing history node drawn chosen

-- law: an item is granted to an active sequence that runs on that sequencer
abbrev pub ChosenAreThere : Type 0
ChosenAreThere = (script : ScriptValue) (history : List Entry) (node id : ℕ) (drawn : Bool) (chosen : Option ℕ → Option ℕ) (word : Option ℕ) → EachIsNext script history → next_of script history ≡ Grant node drawn chosen → chosen word ≡ Some id → IsLiving history id node

-- the sequencer on which a sequence was started, and the phase in which it was started
abbrev pub place_of : Option StartRecord → Option (ℕ × Option Phase)
place_of None = None
place_of (Some start_record) = Some (start_record.start.home, start_record.phase)

-- each start was on a sequencer, and each driver is a component. An item that a driver holds is that of a sequence started on its sequencer.
-- A driver that is not idle asked in a phase that has not ended
pub record IsDriving (history : List Entry) : Type 0 where
  pub homes : All (λ start_record. IsSome (mode_at history start_record.start.home)) (starts_of history)
  pub drivers : (node : ℕ) → IfSome (driver_requester history node) (λ driver. IsComponent (components_of history) driver.who)
  pub hands : (node id : ℕ) → hand_of (driver_state history node) ≡ Some id → option_map (λ start_record. start_record.start.home) (numbered (starts_of history) id) ≡ Some node
  pub asks : (node : ℕ) → is_idle (driver_state history node) ≡ false → HasNotEnded (ended_of history) (asked_in history node)

-- law: if an action is next, sequencers and drivers are consistent (`IsDriving`)
abbrev pub DriversAreThere : Type 0
DriversAreThere = (script : ScriptValue) (history : List Entry) → EachIsNext script history → IsAct (next_of script history) → IsDriving history

-- drivers are components, and each that is not idle asked in an active phase
pub record AreAsking (history : List Entry) : Type 0 where
  pub drivers : (node : ℕ) → IfSome (driver_requester history node) (λ driver. IsComponent (components_of history) driver.who)
  pub going : (node : ℕ) → is_idle (driver_state history node) ≡ false → is_going (asked_in history node) (in_progress (stage_of history)) ≡ true

-- law: until the run ends, drivers are components, and each that is not idle asked in an active phase
abbrev pub AsksAreInPhase : Type 0
AsksAreInPhase = (script : ScriptValue) (history : List Entry) → EachIsNext script history → (stage_of history ≡ Ended → ⊥) → AreAsking history

-- nothing can be granted or transferred: no lock and no item can be granted, and no transfer at a FIFO can complete
pub record IsSettled (history : List Entry) : Type 0 where
  pub unlocked : next_locked history ≡ None
  pub unserved : next_served history ≡ None
  pub unpassed : next_passed history ≡ None

-- law: if an answer is next, nothing can be granted or transferred
abbrev pub AnswersAreSettled : Type 0
AnswersAreSettled = (script : ScriptValue) (history : List Entry) (hearer : Who) (call : Call) (origin : Option Origin) → next_of script history ≡ Answer hearer call origin → IsSettled history

-- an action is the first that remains and is next, and nothing can be granted or transferred
pub record IsFirstAct (script : ScriptValue) (history : List Entry) (act : Act) : Type 0 where
  pub settled : IsSettled history
  pub left : remaining_acts script history ≡ act ∷ rest_of (remaining_acts script history)
  pub next : next_of script history ≡ by_act script history (performer_of history) act

-- law: if an action is next, it is the first that is left, and nothing can be granted or transferred
abbrev pub ActsGoInOrder : Type 0
ActsGoInOrder = (script : ScriptValue) (history : List Entry) → IsAct (next_of script history) → (act : Act) × IsFirstAct script history act

-- an action creates an object
abbrev pub IsCreation : Act → Type 0
IsCreation (Create type_name name) = Unit {0}
IsCreation act = ⊥

-- an action creates the needed object: under a free name, before the end of build, below a node of the tree
pub record IsCreated (history : List Entry) (need : declared.Need) (type_name : List ℕ) (act : Act) : Type 0 where
  pub creates : IsCreation act
  pub type_is : type_name ≡ need.type_name
  pub path_is : need.path ≡ path_at (nodes_of history) (node_of (performer_of history)) ++ created_name act ∷ []
  pub free : child_refusal (nodes_of history) (node_of (performer_of history)) (created_name act) ≡ None
  pub performer : IsSome (node_at (nodes_of history) (node_of (performer_of history)))
  pub building : is_built history ≡ false

-- an action starts the needed sequence, which has the next number; there is no reason to refuse the start
pub record IsBegun (script : ScriptValue) (history : List Entry) (id : ℕ) (act : Act) : Type 0 where
  pub asked : List ℕ
  pub name : List ℕ
  pub on : List (List ℕ)
  pub priority : Option ℕ
  pub starts : act ≡ Start asked name on priority
  pub number : id ≡ suc (length (sequences_of history))
  pub may : starting_refusal (starting_now script history (performer_of history) asked name on priority) ≡ None

-- an action makes the needed object: it creates the component, or starts the sequence
abbrev pub IsMadeBy : ScriptValue → List Entry → declared.Need → Outcome → Act → Type 0
IsMadeBy script history need (Made type_name) act = IsCreated history need type_name act
IsMadeBy script history need (Started id) act = IsBegun script history id act
IsMadeBy script history need outcome act = ⊥

-- an action needs an object and makes it: it creates the component, or starts the sequence
pub record IsWanted (script : ScriptValue) (history : List Entry) (act : Act) : Type 0 where
  pub need : declared.Need
  pub made : Outcome
  pub next : next_of script history ≡ Need need made (performer_of history) act
  pub settled : IsSettled history
  pub makes : IsMadeBy script history need made act

-- law: if an object is needed, the first action that is left makes it (`IsWanted`)
abbrev pub NeedsAreWanted : Type 0
NeedsAreWanted = (script : ScriptValue) (history : List Entry) → IsSome (need_in (next_of script history)) → (act : Act) × (remaining_acts script history ≡ act ∷ rest_of (remaining_acts script history)) × IsWanted script history act

-- the connect phase runs
abbrev pub runs_connect : RunStage → Bool
runs_connect (During Connect) = true
runs_connect stage = false

-- the connect phase runs, or the run has ended
abbrev pub is_connect_last : RunStage → Bool
is_connect_last (During Connect) = true
is_connect_last Ended = true
is_connect_last stage = false

-- nothing can be granted or transferred, no action remains, no event is due now, and each component has received its call of connect
abbrev pub has_nothing_left : ScriptValue → List Entry → Bool
has_nothing_left script history = is_none (next_locked history) && is_none (next_served history) && is_none (next_passed history) && is_none (head_of (remaining_acts script history)) && is_none (due_now script history) && is_none (next_call Connect history)

-- the connect phase runs, and has nothing left to do
abbrev pub is_at_check : ScriptValue → List Entry → Bool
is_at_check script history = runs_connect (stage_of history) && has_nothing_left script history

-- nothing is added or connected any more: build has ended, and connect has ended or has nothing left to do
pub record IsWired (script : ScriptValue) (history : List Entry) : Type 0 where
  pub built : is_built history ≡ true
  pub quiet : is_past_connect history ≡ false → is_connect_last (stage_of history) && has_nothing_left script history ≡ true

-- if nothing is added or connected any more, this is still so after an entry
pub record StaysWired (script : ScriptValue) (history : List Entry) (entry : Entry) : Type 0 where
  pub stays : IsWired script history → IsWired script (entry ∷ history)

-- law: once nothing is added or connected any more, no next entry changes this (`StaysWired`)
abbrev pub WiringStays : Type 0
WiringStays = (script : ScriptValue) (history : List Entry) (entry : Entry) → IsNext script history entry → StaysWired script history entry

-- the connect phase runs, or has just ended
abbrev pub is_in_connect : RunStage → Bool
is_in_connect (During Connect) = true
is_in_connect (After Connect) = true
is_in_connect stage = false

-- law: while connect runs, and just after its end, build has ended
abbrev pub ConnectFollowsBuild : Type 0
ConnectFollowsBuild = (script : ScriptValue) (history : List Entry) → EachIsNext script history → is_in_connect (stage_of history) ≡ true → is_built history ≡ true

-- law: until the run ends, if the next action belongs to a phase that takes time, connect has ended
abbrev pub TasksFollowConnect : Type 0
TasksFollowConnect = (script : ScriptValue) (history : List Entry) → EachIsNext script history → (stage_of history ≡ Ended → ⊥) → in_task (act_phase history) ≡ true → is_past_connect history ≡ true

-- law: while a phase that takes time is active, connect has ended
abbrev pub TaskPhasesFollowConnect : Type 0
TaskPhasesFollowConnect = (script : ScriptValue) (history : List Entry) (phase : Phase) → EachIsNext script history → list_any (same_phase phase) (in_progress (stage_of history)) ≡ true → is_task phase ≡ true → is_past_connect history ≡ true

-- something comes next
abbrev pub IsSomething : Next → Type 0
IsSomething Nothing = ⊥
IsSomething next = Unit {0}

-- law: nothing comes after the end of a run
abbrev pub NothingAfterOver : Type 0
NothingAfterOver = (script : ScriptValue) (history : List Entry) → is_over history ≡ true → next_of script history ≡ Nothing

-- law: until the end of a run, something comes next
abbrev pub SomethingBeforeOver : Type 0
SomethingBeforeOver = (script : ScriptValue) (history : List Entry) → EachIsNext script history → is_over history ≡ false → IsSomething (next_of script history)

-- an entry answers no call, makes no component and starts no sequence
pub record IsMachines (history : List Entry) (entry : Entry) : Type 0 where
  pub silent : (hearer : Who) → exchanged_in hearer entry ≡ []
  pub keeps : components_of (entry ∷ history) ≡ components_of history
  pub starts_none : starts_of (entry ∷ history) ≡ starts_of history

-- law: if one entry alone may come next, it answers no call, makes no component and starts no sequence
abbrev pub MachineEntriesAreSilent : Type 0
MachineEntriesAreSilent = (script : ScriptValue) (history : List Entry) (entry : Entry) → next_of script history ≡ Exactly entry → IsMachines history entry

-- law: no entry removes a node
abbrev pub NodesStay : Type 0
NodesStay = (entry : Entry) (before : List Entry) → (more : List Node) × (nodes_of (entry ∷ before) ≡ nodes_of before ++ more)

-- law: the nodes of a log form a tree, so no two nodes have the same path; as no entry removes a node, no path is used again
abbrev pub NodesAreATree : Type 0
NodesAreATree = (script : ScriptValue) (history : List Entry) → EachIsNext script history → AreNodes (nodes_of history)

-- an object that is made is one more component: at the next node, with this path; no sequence is started
pub record HasGrown (history : List Entry) (path : List (List ℕ)) (entry : Entry) : Type 0 where
  pub components : components_of (entry ∷ history) ≡ components_of history ++ length (nodes_of history) ∷ []
  pub count : length (nodes_of (entry ∷ history)) ≡ suc (length (nodes_of history))
  pub path_is : path_at (nodes_of (entry ∷ history)) (length (nodes_of history)) ≡ path
  pub starts_none : starts_of (entry ∷ history) ≡ starts_of history

-- a sequence that is started is one more, with the next number; no component is made
pub record HasBegun (history : List Entry) (id : ℕ) (performer : Who) (act : Act) (entry : Entry) : Type 0 where
  pub components : components_of (entry ∷ history) ≡ components_of history
  pub all : all_begun (starts_of (entry ∷ history)) ≡ all_begun (starts_of history) ++ who.Sequence (start_by (nodes_of history) (sequences_of history) performer act).home id ∷ []
  pub number : id ≡ suc (length (starts_of history))

-- what an object that is made adds to a log: a component (`HasGrown`) or a sequence (`HasBegun`)
abbrev pub HasMade : List Entry → declared.Need → Outcome → Who → Act → Type 0
HasMade history need (Made type_name) performer act = HasGrown history need.path (Did performer (Made type_name) act)
HasMade history need (Started id) performer act = HasBegun history id performer act (Did performer (Started id) act)
HasMade history need outcome performer act = ⊥

-- law: an object that is made is a new component or a new sequence (`HasMade`)
abbrev pub MadeObjectsAreNew : Type 0
MadeObjectsAreNew = (script : ScriptValue) (history : List Entry) (need : declared.Need) (made : Outcome) (performer : Who) (act : Act) → next_of script history ≡ Need need made performer act → HasMade history need made performer act

-- law: no component with a number beyond the nodes of the tree was called
abbrev pub NewNodesAreUnasked : Type 0
NewNodesAreUnasked = (script : ScriptValue) (history : List Entry) (node : ℕ) → EachIsNext script history → length (nodes_of history) ≤ node → life_of (who.Node node) history ≡ []

-- law: no sequence with a number beyond the sequences that were started was called
abbrev pub NewSequencesAreUnasked : Type 0
NewSequencesAreUnasked = (script : ScriptValue) (history : List Entry) (id home : ℕ) → EachIsNext script history → length (starts_of history) < id → life_of (who.Sequence home id) history ≡ []

-- law: a sequence that was started before an entry and is active after it was active before it
abbrev pub LivingLived : Type 0
LivingLived = (entry : Entry) (before : List Entry) (id home : ℕ) → id ≤ length (starts_of before) → IsLiving (entry ∷ before) id home → IsLiving before id home

-- law: until the run ends, an active sequence was started in a phase that is active
abbrev pub LivingRun : Type 0
LivingRun = (script : ScriptValue) (history : List Entry) (id home : ℕ) → EachIsNext script history → (stage_of history ≡ Ended → ⊥) → IsLiving history id home → is_going (phase_begun history id) (in_progress (stage_of history)) ≡ true

-- an object is an active sequence
abbrev pub IsLivingSequence : List Entry → Who → Type 0
IsLivingSequence history (who.Node node) = ⊥
IsLivingSequence history (who.Sequence home id) = IsLiving history id home

-- the number of a sequence; 0 for a component
abbrev pub number_of : Who → ℕ
number_of (who.Node node) = 0
number_of (who.Sequence home id) = id

-- each object has a greater number than those before it
abbrev pub AreRising : List Who → Type 0
AreRising [] = Unit {0}
AreRising (first ∷ others) = All (λ other. number_of first < number_of other) others × AreRising others

-- the sequences that an entry ends are exactly those that are active before it and not after it, in ascending order of number
pub record AreLeaving (before : List Entry) (entry : Entry) : Type 0 where
  pub lived : All (IsLivingSequence before) (leaving_of (entry ∷ before))
  pub gone : All (λ who. IsLivingSequence (entry ∷ before) who → ⊥) (leaving_of (entry ∷ before))
  pub all : (id home : ℕ) → IsLiving before id home → (IsLiving (entry ∷ before) id home → ⊥) → Contains (leaving_of (entry ∷ before)) (who.Sequence home id)
  pub rising : AreRising (leaving_of (entry ∷ before))

-- law: the sequences that an entry ends are exactly those that are active before it and not after it (`AreLeaving`)
abbrev pub LeaversLived : Type 0
LeaversLived = (script : ScriptValue) (before : List Entry) (entry : Entry) → EachIsNext script before → IsNext script before entry → AreLeaving before entry

-- law: no more reports were issued than the log has entries
abbrev pub ReportsAreFew : Type 0
ReportsAreFew = (script : ScriptValue) (history : List Entry) → issued_number (report_counts (report_commands script history)) ≤ length history

-- law: the time does not exceed the time limit of the script
abbrev pub TimeStaysWithin : Type 0
TimeStaysWithin = (script : ScriptValue) (history : List Entry) → EachIsNext script history → now_of history ≤ script.time_limit
