-- What a log says about objections (IEEE 1800.2-2020, 10.5).
use Rattle.std.specs.Prelude.{ℕ, Bool, not, ◌||◌, nat_lt, List, [], ◌∷◌, ◌++◌, length, if◌then◌else◌}
use Rattle.bench_script.specs.Scripts.{ScriptValue}
use Rattle.std.specs.List.{list_any}
use Rattle.std.specs.Option.{option_map_or}
use Rattle.uvm_phase.specs.declared.phases.Phase.{Phase}
use Rattle.uvm_phase.specs.declared.phases.Phase.TheVariants.{PostShutdown, Run}
use Rattle.uvm_phase.specs.Phases.{is_task, same_phase}
use Rattle.uvm_tree.specs.Nodes.{path_at}
use Rattle.uvm_objection.specs.Nodes as objection
use Rattle.uvm_objection.specs.Nodes.{top, new_node, raised, dropped, released, with_drain}
use Rattle.uvm_objection.specs.Totals.{total, settled, standing}
use Rattle.uvm_acts.specs.Acts.{node_of}
use Rattle.uvm_acts.specs.declared.acts.Who.{Who}
use Rattle.uvm_acts.specs.declared.acts.Act.{Act}
use Rattle.uvm_acts.specs.declared.acts.Act.TheVariants.{Add, RaiseObjection, DropObjection, SetDrain}
use Rattle.uvm_object.specs.declared.entries.Outcome.{Outcome}
use Rattle.uvm_object.specs.declared.entries.Outcome.TheVariants.{Done, Made}
use Rattle.uvm_object.specs.declared.entries.Entry.{Entry}
use Rattle.uvm_object.specs.declared.entries.Entry.TheVariants.{Did, Drained}
use Rattle.script_tables.specs.Drains.{drain_given}
use Rattle.bench_history.specs.History.{act_phase, created_name, in_task, is_of_phase, nodes_of, now_of}

-- the nodes with one more below a parent, at which nothing is raised, with its drain time
abbrev pub with_new : ℕ → ℕ → List objection.Node → List objection.Node
with_new parent drain nodes = with_drain (length nodes) drain (nodes ++ new_node (length nodes) parent ∷ [])

-- the nodes of the objection of a phase after an action, of that phase (`own`) or not. A new node gets the drain time that is given for its name.
-- A drain time that is set outside of the phases that take time applies to all of them (`shared`)
abbrev pub objections_after : ℕ → Bool → Bool → (List ℕ → ℕ) → List objection.Node → Who → Outcome → Act → List objection.Node
objections_after time own shared given nodes performer (Made type_name) act = with_new (node_of performer) (given (created_name act)) nodes
objections_after time own shared given nodes performer Done (Add name what) = with_new (node_of performer) (given name) nodes
objections_after time own shared given nodes performer Done (RaiseObjection count) = if own then settled time (total nodes) (raised (node_of performer) count nodes) else nodes
objections_after time own shared given nodes performer Done (DropObjection count) = if own then settled time (total nodes) (dropped (node_of performer) count nodes) else nodes
objections_after time own shared given nodes performer Done (SetDrain ticks) = if own || shared then with_drain (node_of performer) ticks nodes else nodes
objections_after time own shared given nodes performer outcome act = nodes

-- the drain time that the script gives in a phase to the next node, by its name below that of the performer
abbrev pub given_below : ScriptValue → Phase → List Entry → Who → List ℕ → ℕ
given_below script phase before performer name = drain_given script.drains phase (path_at (nodes_of before) (node_of performer) ++ name ∷ [])

-- the objection of a phase that takes time (Clause 9, 10.5): for each node the count raised and not dropped, the drain time, and what is delayed
-- by it. The drain time is that of the script until one is set
abbrev pub objections_of : ScriptValue → Phase → List Entry → List objection.Node
objections_of script phase [] = top ∷ []
objections_of script phase (Did performer outcome act ∷ before) = objections_after (now_of before) (is_of_phase phase (act_phase before)) (not (in_task (act_phase before))) (given_below script phase before performer) (objections_of script phase before) performer outcome act
objections_of script phase (Drained node origin ∷ before) = if same_phase origin.phase phase then settled (now_of before) (total (objections_of script phase before)) (released node (objections_of script phase before)) else objections_of script phase before
objections_of script phase (entry ∷ before) = objections_of script phase before

-- the objection of the phase of the next action; no nodes if the action belongs to no phase
abbrev pub objection_now : ScriptValue → List Entry → List objection.Node
objection_now script history = option_map_or (λ phase. objections_of script phase history) (act_phase history) []

-- something is raised or delayed by the drain time in the objection
abbrev pub stands : List objection.Node → Bool
stands nodes = nat_lt 0 (standing nodes)

-- the phases whose objections keep a phase from its end: its own, if it takes time, and for the last run-time phase also the run phase
abbrev pub keepers : Phase → List Phase
keepers PostShutdown = PostShutdown ∷ Run ∷ []
keepers phase = if is_task phase then phase ∷ [] else []

-- a phase is kept from its end: something is raised or delayed by the drain time in one of these objections
unfoldable pub is_kept : ScriptValue → Phase → List Entry → Bool
is_kept script phase history = list_any (λ keeper. stands (objections_of script keeper history)) (keepers phase)
