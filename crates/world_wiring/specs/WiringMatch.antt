-- The connections that a run stores are as the log says.
use Rattle.std.specs.Prelude.{◌≡◌, ◌<◌, ℕ, Bool, true, List, length, Some, unwrap_or, All}
use Rattle.std.specs.Option.{ForSome}
use Rattle.uvm_phase.specs.declared.phases.Phase.{Phase}
use Rattle.uvm_phase.specs.declared.phases.Phase.TheVariants.{Connect}
use Rattle.uvm_tree.specs.Nodes.{Node}
use Rattle.uvm_tree.specs.Sorted.{path_order}
use Rattle.uvm_tlm.specs.declared.ends.End.{End}
use Rattle.uvm_tlm.specs.Wirings.{WiringValue}
use Rattle.uvm_object.specs.declared.entries.Entry.{Entry}
use Rattle.bench_script.specs.Scripts.{ScriptValue}
use Rattle.bench_history.specs.Laws.{IsWired}

-- the node of an end has a number below this count, and is not the top node
abbrev pub IsAtNode : ℕ → ℕ × End → Type 0
IsAtNode count e = (0 < e.0) × (e.0 < count)

-- the wiring has the ends and the connections of the log; each end is at a node below the top node. If it is closed, it has the path order of all
-- nodes
pub record IsConnecting (nodes : List Node) (wiring kept : WiringValue) : Type 0 where
  pub ends : kept.ends ≡ wiring.ends
  pub connections : kept.connections ≡ wiring.connections
  pub order : ForSome kept.order (λ order. order ≡ path_order nodes)
  pub within : All (IsAtNode (length nodes)) wiring.ends

-- the wiring closed by the path order of all nodes, unless it is closed already
abbrev pub closed_by : List Node → WiringValue → WiringValue
closed_by nodes wiring = record wiring { order = Some (unwrap_or wiring.order (path_order nodes)) }

-- the wiring after the end of a phase: closed if that was connect
abbrev pub closed_after : Phase → List Node → WiringValue → WiringValue
closed_after Connect nodes wiring = closed_by nodes wiring
closed_after phase nodes wiring = wiring

-- if the wiring is closed, nothing is added or connected any more
pub record IsClosing (script : ScriptValue) (history : List Entry) (closed : Bool) : Type 0 where
  pub wired : closed ≡ true → IsWired script history

-- once connect has ended, the wiring is closed
pub record IsClosedPast (past closed : Bool) : Type 0 where
  pub is : past ≡ true → closed ≡ true
