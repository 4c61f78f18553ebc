-- What a log says. A history is the list of its entries, the newest first: a phase begins or ends; an object has received a call and answered with
-- actions; a performer's action had an outcome, which may be that it was refused; the kernel notes an error; the run ends.
use Rattle.std.specs.Prelude.{ℕ, Bool, true, false, not, ◌==◌, List, [], ◌∷◌, ◌++◌, length, reverse, filter, slice_get, codes, Option, Some, None, if◌then◌else◌}
use Rattle.std.specs.List.{flat_map, list_any}
use Rattle.std.specs.Option.{option_map_or}
use Rattle.uvm_glob.specs.Paths.{path_text, dotted}
use Rattle.uvm_glob.specs.Orders.{PathOrder, down_cmp, up_cmp}
use Rattle.uvm_factory.specs.declared.overrides.Override.{Override}
use Rattle.uvm_factory.specs.declared.overrides.Override.TheVariants.{Instance, Whole}
use Rattle.uvm_factory.specs.Faults.{Types, type_named}
use Rattle.uvm_phase.specs.declared.phases.Phase.{Phase}
use Rattle.uvm_phase.specs.declared.phases.Phase.TheVariants.{Build, Run}
use Rattle.uvm_phase.specs.Phases.{is_runtime, is_task, is_top_down, same_phase}
use Rattle.uvm_tree.specs.declared.nodes.NodeKind.{NodeKind}
use Rattle.uvm_tree.specs.declared.nodes.NodeKind.TheVariants as kind
use Rattle.uvm_tree.specs.Nodes.{Node, top, child, path_at}
use Rattle.uvm_tree.specs.Cursors.{is_before, least}
use Rattle.uvm_acts.specs.declared.acts.Who.{Who}
use Rattle.uvm_acts.specs.declared.acts.Who.TheVariants as who
use Rattle.uvm_acts.specs.Acts.{node_of}
use Rattle.uvm_acts.specs.declared.acts.Call.{Call}
use Rattle.uvm_acts.specs.declared.acts.Call.TheVariants as call
use Rattle.uvm_acts.specs.declared.acts.What.{What}
use Rattle.uvm_acts.specs.declared.acts.What.TheVariants as what
use Rattle.uvm_acts.specs.declared.acts.Act.{Act}
use Rattle.uvm_acts.specs.declared.acts.Act.TheVariants.{Create, Add, OverrideType, OverrideInst}
use Rattle.uvm_object.specs.declared.entries.Outcome.{Outcome}
use Rattle.uvm_object.specs.declared.entries.Outcome.TheVariants.{Done, Made, Finished}
use Rattle.uvm_object.specs.declared.entries.Origin.{Origin}
use Rattle.uvm_object.specs.declared.entries.Entry.{Entry}
use Rattle.uvm_object.specs.declared.entries.Entry.TheVariants.{Time, Begin, End, Heard, Did, Note, Over}
use Rattle.bench_script.specs.Scripts.{ScriptValue}
use Rattle.bench_history.specs.declared.stages.RunStage.{RunStage}
use Rattle.bench_history.specs.declared.stages.RunStage.TheVariants.{Before, During, After, Ended}

-- the stage that the run has reached
abbrev pub stage_of : List Entry → RunStage
stage_of [] = Before
stage_of (Begin phase ∷ before) = During phase
stage_of (End phase ∷ before) = After phase
stage_of (Over reason ∷ before) = Ended
stage_of (entry ∷ before) = stage_of before

-- the current time in ticks: the time of the newest `Time` entry, or 0
abbrev pub now_of : List Entry → ℕ
now_of [] = 0
now_of (Time time ∷ before) = time
now_of (entry ∷ before) = now_of before

-- the phase that was begun last and has not ended; after the end of a run-time phase this is the run phase
abbrev pub running : RunStage → Option Phase
running (During phase) = Some phase
running (After phase) = if is_runtime phase then Some Run else None
running stage = None

-- the active phases, in the order in which they began: two while a run-time phase is active in parallel with the run phase
abbrev pub in_progress : RunStage → List Phase
in_progress (During phase) = if is_runtime phase then Run ∷ phase ∷ [] else phase ∷ []
in_progress (After phase) = if is_runtime phase then Run ∷ [] else []
in_progress stage = []

-- the phase is given, and it is this one
abbrev pub is_of_phase : Phase → Option Phase → Bool
is_of_phase phase other = option_map_or (λ other. same_phase other phase) other false

-- an action belongs to a phase that takes time
abbrev pub in_task : Option Phase → Bool
in_task phase = option_map_or is_task phase false

-- the phase to which a call belongs: that of its origin, or for a phase's own call this phase
abbrev pub phase_heard : Call → Option Origin → Option Phase
phase_heard call (Some origin) = Some origin.phase
phase_heard (call.Phase phase) None = Some phase
phase_heard call None = None

-- the phase of the next action, and of all that it requests, starts or causes: that of the call which it answers; none for the creation of the test
abbrev pub act_phase : List Entry → Option Phase
act_phase [] = None
act_phase (Heard hearer origin call acts ∷ before) = phase_heard call origin
act_phase (entry ∷ before) = act_phase before

-- the name of the object that an action creates; empty for any other action
abbrev pub created_name : Act → List ℕ
created_name (Create type_name name) = name
created_name act = []

-- the kind of the node that an addition adds to the tree
abbrev pub kind_of : What → NodeKind
kind_of (what.Sequencer mode) = kind.Sequencer
kind_of (what.Fifo size) = kind.Fifo
kind_of (what.Port port) = kind.Port
kind_of (what.Export port) = kind.Export
kind_of what.Imp = kind.Imp

-- the nodes of the tree after an action: with one more, if it created or added something
abbrev pub nodes_after : List Node → Who → Outcome → Act → List Node
nodes_after nodes performer (Made type_name) act = nodes ++ child nodes (node_of performer) (created_name act) kind.Component ∷ []
nodes_after nodes performer Done (Add name what) = nodes ++ child nodes (node_of performer) name (kind_of what) ∷ []
nodes_after nodes performer outcome act = nodes

-- all nodes by their numbers: the top node, and below its performer each object that was made and each accepted addition
abbrev pub nodes_of : List Entry → List Node
nodes_of [] = top ∷ []
nodes_of (Did performer outcome act ∷ before) = nodes_after (nodes_of before) performer outcome act
nodes_of (entry ∷ before) = nodes_of before

-- the nodes that hold an object after an action: with this one, if the action created an object
abbrev pub components_after : ℕ → List ℕ → Outcome → List ℕ
components_after node components (Made type_name) = components ++ node ∷ []
components_after node components outcome = components

-- the nodes that hold an object, in the order in which they were made
abbrev pub components_of : List Entry → List ℕ
components_of [] = []
components_of (Did performer outcome act ∷ before) = components_after (length (nodes_of before)) (components_of before) outcome
components_of (entry ∷ before) = components_of before

-- both phases are run-time phases, or neither is: two such phases are never active in parallel
abbrev pub same_sort : Phase → Phase → Bool
same_sort a b = if is_runtime a then is_runtime b else not (is_runtime b)

-- a call is that of a phase, and this phase and the given one are both run-time phases or neither is
abbrev pub calls_sort : Phase → Call → Bool
calls_sort phase (call.Phase other) = same_sort other phase
calls_sort phase call = false

-- the nodes that have received the call of a phase since it began; a call without an origin is that of a phase
abbrev pub components_called : Phase → List Entry → List ℕ
components_called phase [] = []
components_called phase (Begin other ∷ before) = if same_sort other phase then [] else components_called phase before
components_called phase (Heard hearer None call acts ∷ before) = if calls_sort phase call then node_of hearer ∷ components_called phase before else components_called phase before
components_called phase (entry ∷ before) = components_called phase before

-- a node is among those that have received the call
abbrev pub had_call : List ℕ → ℕ → Bool
had_call called node = list_any (λ other. other == node) called

-- the order in which the components receive the call of a phase
abbrev pub phase_order : Phase → PathOrder
phase_order phase = if is_top_down phase then down_cmp else up_cmp

-- the component that is next in a phase: the first in its order that has not yet received its call
unfoldable pub next_call : Phase → List Entry → Option ℕ
next_call phase history =
    least (is_before (phase_order phase) (nodes_of history))
    (filter (λ node. not (had_call (components_called phase history) node)) (components_of history))

-- the name of a type, or the other name if there is no such type
abbrev pub type_name_or : Types → ℕ → List ℕ → List ℕ
type_name_or types type_id other = option_map_or (λ t. t.0) (slice_get types type_id) other

-- the creation of the test: the one action of the top node; if there is no test, its type name is empty, which is refused
abbrev pub test_creation : ScriptValue → Act
test_creation script = Create (option_map_or (λ test. type_name_or script.types test []) script.test []) (codes "uvm_test_top")

-- all actions except the first
abbrev pub rest_of : List Act → List Act
rest_of [] = []
rest_of (act ∷ acts) = acts

-- the actions that remain after the entry of the first, performed or refused; none after a sequence has finished
abbrev pub left_after : Outcome → List Act → List Act
left_after Finished left = []
left_after outcome left = rest_of left

-- the remaining actions of the last answer; none after a note. Before the first answer it is the creation of the test
abbrev pub remaining_acts : ScriptValue → List Entry → List Act
remaining_acts script [] = test_creation script ∷ []
remaining_acts script (Heard hearer cause call acts ∷ before) = acts
remaining_acts script (Did performer outcome act ∷ before) = left_after outcome (remaining_acts script before)
remaining_acts script (Note fatal node ∷ before) = []
remaining_acts script (entry ∷ before) = remaining_acts script before

-- the first action, if there is one
abbrev pub head_of : List Act → Option Act
head_of [] = None
head_of (act ∷ acts) = Some act

-- the performer: the object that gave the last answer; the top node before any
abbrev pub performer_of : List Entry → Who
performer_of [] = who.Node 0
performer_of (Heard hearer cause call acts ∷ before) = hearer
performer_of (entry ∷ before) = performer_of before

-- the overrides with one more, the newest, if both types are known
abbrev pub with_override : Option ℕ → Option ℕ → (ℕ → ℕ → Override) → List Override → List Override
with_override (Some original) (Some new) make overrides = make original new ∷ overrides
with_override original new make overrides = overrides

-- the overrides after an action: with one more, the newest, if it is an override that is done
abbrev pub overrides_after : Types → List Node → List Override → Who → Outcome → Act → List Override
overrides_after types nodes overrides performer Done (OverrideType original new replace) =
    with_override (type_named types original) (type_named types new) (λ o n. Whole o n replace) overrides
overrides_after types nodes overrides performer Done (OverrideInst original new glob) =
    with_override (type_named types original) (type_named types new) (λ o n. Instance o n (dotted (path_text (path_at nodes (node_of performer))) glob)) overrides
overrides_after types nodes overrides performer outcome act = overrides

-- the overrides, the newest first: those of the accepted actions, each glob below the path of its performer, then those of the script
abbrev pub overrides_of : ScriptValue → List Entry → List Override
overrides_of script [] = reverse script.overrides
overrides_of script (Did performer outcome act ∷ before) = overrides_after script.types (nodes_of before) (overrides_of script before) performer outcome act
overrides_of script (entry ∷ before) = overrides_of script before

-- an entry ends build
abbrev pub ends_build : Entry → Bool
ends_build (End Build) = true
ends_build entry = false

-- build has ended
abbrev pub is_built : List Entry → Bool
is_built history = list_any ends_build history

-- the newest entry is the end of the run
abbrev pub is_over : List Entry → Bool
is_over [] = false
is_over (Over reason ∷ before) = true
is_over (entry ∷ before) = false

-- the phase that an entry ends, if it ends one
abbrev pub ended_in : Entry → List Phase
ended_in (End phase) = phase ∷ []
ended_in entry = []

-- the phases that have ended
abbrev pub ended_of : List Entry → List Phase
ended_of history = flat_map ended_in history
