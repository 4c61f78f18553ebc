-- A change of one node.
use Rattle.std.specs.Prelude.{◌≡◌, ℕ, ◌==◌, ◌+◌, ◌-◌, ◌^◌, ◌<◌, ◌≤◌, List, Some, None, if◌then◌else◌}
use Rattle.uvm_objection.specs.Nodes.{Node, changed_at}
use Rattle.uvm_objection.specs.declared.nodes.Entry.{Entry}
use Rattle.uvm_objection.specs.declared.walks.Walk.{Walk}
use Rattle.uvm_objection.specs.declared.nodes.Change.{Change}
use Rattle.uvm_objection.specs.declared.nodes.ChangeKind.{ChangeKind}
use Rattle.uvm_objection.specs.declared.nodes.ChangeKind.TheVariants.{Raise, Drop, Release, SetDrain}

-- the count raised at a node, after a change of the node
abbrev pub source_changed : ChangeKind → ℕ → ℕ
source_changed (Raise count) source = source + count
source_changed (Drop count) source = source - count
source_changed Release source = source
source_changed (SetDrain drain) source = source

-- the delayed count of a node, after a change of the node: a release sets it to 0
abbrev pub held_changed : ChangeKind → ℕ → ℕ
held_changed (Raise count) held = held
held_changed (Drop count) held = held
held_changed Release held = 0
held_changed (SetDrain drain) held = held

-- the time at which a node's drain is due, after a change of the node: a release sets it to 0
abbrev pub due_changed : ChangeKind → ℕ → ℕ
due_changed (Raise count) due = due
due_changed (Drop count) due = due
due_changed Release due = 0
due_changed (SetDrain drain) due = due

-- the drain time of a node, after a change of the node
abbrev pub drain_changed : ChangeKind → ℕ → ℕ
drain_changed (Raise count) drain = drain
drain_changed (Drop count) drain = drain
drain_changed Release drain = drain
drain_changed (SetDrain time) drain = time

-- an entry after the change if the change is of its node, otherwise the same entry
abbrev pub entry_changed : Change → Entry → Entry
entry_changed c e = record e {
  source = if c.node == e.node then source_changed c.kind e.source else e.source;
  held = if c.node == e.node then held_changed c.kind e.held else e.held;
  due = if c.node == e.node then due_changed c.kind e.due else e.due;
  drain = if c.node == e.node then drain_changed c.kind e.drain else e.drain;
}

-- a node after a change of it
abbrev pub node_changed : ChangeKind → Node → Node
node_changed (Raise count) e = record e { source = e.source + count }
node_changed (Drop count) e = record e { source = e.source - count }
node_changed Release e = record e { held = 0; due = 0 }
node_changed (SetDrain drain) e = record e { drain = drain }

-- the nodes after a change of one of them
abbrev pub nodes_changed : ℕ → ChangeKind → List Node → List Node
nodes_changed node kind nodes = changed_at node (node_changed kind) nodes

-- the most that a change adds to a total
abbrev pub most_raised : ChangeKind → ℕ
most_raised (Raise count) = count
most_raised (Drop count) = 0
most_raised Release = 0
most_raised (SetDrain drain) = 0

-- the limit of a change: the root's total after a raise is at most 10^18, and a drain time is at most 10^15 ticks
abbrev pub IsWithin : ChangeKind → ℕ → Type 0
IsWithin (Raise count) total = total + count ≤ 10 ^ 18
IsWithin (Drop count) total = Unit {0}
IsWithin Release total = Unit {0}
IsWithin (SetDrain drain) total = drain ≤ 10 ^ 15

-- whether a change at `time` may count as one at `now`: always for a raise, which begins no drain, otherwise only if the times are equal
abbrev pub IsTimely : ChangeKind → ℕ → ℕ → Type 0
IsTimely (Raise count) time now = Unit {0}
IsTimely (Drop count) time now = now ≡ time
IsTimely Release time now = now ≡ time
IsTimely (SetDrain drain) time now = now ≡ time

-- the change affects no total: a raise or drop of 0, or a new drain time
abbrev pub IsSteady : ChangeKind → Type 0
IsSteady (Raise count) = count ≡ 0
IsSteady (Drop count) = count ≡ 0
IsSteady Release = ⊥
IsSteady (SetDrain drain) = Unit {0}

-- the drains that the walk of a change reports: a raise begins none; a drop ends none; a release ends that of its node if that has a
-- delayed count; a new drain time begins and ends none
abbrev pub TellsOf : ChangeKind → ℕ → ℕ → Walk → Type 0
TellsOf (Raise count) node held walk = walk.began ≡ None
TellsOf (Drop count) node held walk = walk.ended ≡ None
TellsOf Release node held walk = 0 < held → walk.ended ≡ Some node
TellsOf (SetDrain drain) node held walk = (walk.began ≡ None) × (walk.ended ≡ None)
