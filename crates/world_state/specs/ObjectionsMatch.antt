-- The objections that a run stores are as the log says.
use Rattle.std.specs.Prelude.{◌≡◌, ◌*◌, ◌≤◌, ℕ, nat_lt, true, List, length, All, Option, Some, None}
use Rattle.uvm_phase.specs.declared.phases.Phase.{Phase}
use Rattle.uvm_phase.specs.Phases.{is_task}
use Rattle.uvm_objection.specs.Nodes.{is_known}
use Rattle.uvm_objection.specs.Totals.{total}
use Rattle.uvm_objection.specs.Laws.{AreNodes, IsHeldUntilDue}
use Rattle.uvm_acts.specs.declared.acts.Call.{Call}
use Rattle.bench_history.specs.declared.event_targets.EventTarget.{EventTarget}
use Rattle.bench_history.specs.declared.event_targets.EventTarget.TheVariants.{Object, Drain}
use Rattle.bench_history.specs.EventTargets.{Event}
use Rattle.uvm_objection.specs.Nodes as objection

-- exactly the nodes with a number below this count are known
abbrev pub AreNumbered : List objection.Node → ℕ → Type 0
AreNumbered nodes count = (node : ℕ) → is_known node nodes ≡ nat_lt node count

-- the stored nodes of an objection are those of the log; the total of the top node is at most what the entries of a log can have raised
pub record IsObjecting (nodes : List objection.Node) (count entries : ℕ) (kept : List objection.Node) : Type 0 where
  pub are : kept ≡ nodes
  pub numbered : AreNumbered nodes count
  pub count_is : length nodes ≡ count
  pub are_nodes : AreNodes nodes
  pub few : total nodes 0 ≤ 65535 * entries

-- the end of a drain is due: in the objection of its phase, which takes time, at a node that delays an objection until then
pub record IsDrainEvent (nodes : Phase → List objection.Node) (phase of : Phase) (node time : ℕ) : Type 0 where
  pub of_is : of ≡ phase
  pub task : is_task phase ≡ true
  pub held : IsHeldUntilDue (nodes phase) (record { node = node; at = time })

-- an event is a call to an object, or the end of a drain
abbrev pub IsEvent : (Phase → List objection.Node) → Phase → EventTarget → Option Call → ℕ → Type 0
IsEvent nodes phase (Object who) (Some call) time = Unit {0}
IsEvent nodes phase (Object who) None time = ⊥
IsEvent nodes phase (Drain node of) None time = IsDrainEvent nodes phase of node time
IsEvent nodes phase (Drain node of) (Some call) time = ⊥

-- each of some events is a call to an object or the end of a drain
abbrev pub AreEvents : (Phase → List objection.Node) → List Event → Type 0
AreEvents nodes events = All (λ event. IsEvent nodes event.phase event.owner event.notice event.time) events
