-- The stored data of the nodes.
use Rattle.std.specs.Prelude.{◌≡◌, ◌-◌, ◌^◌, ◌<◌, ◌≤◌, ℕ, List, [], ◌∷◌, Option, map, min}
use Rattle.std.specs.HashMap.{HashMap, spare}
use Rattle.std.specs.Vec.{vec_capacity, vec_len}
use Rattle.std.specs.declared.vec.Vec.{Vec}
use Rattle.uvm_objection.specs.Nodes.{Node}
use Rattle.uvm_objection.specs.Totals.{total}
use Rattle.uvm_objection.specs.Laws.{places, IsTree}
use Rattle.uvm_objection.specs.Places.{ArePlaced}
use Rattle.uvm_objection.specs.declared.nodes.Entry.{Entry}
use Rattle.uvm_objection.specs.declared.objections.Objection.TheInside.{Inside}

-- the node of an entry, which has all its data except the total
abbrev pub node_of : Entry → Node
node_of e = record { node = e.node; parent = e.parent; source = e.source; drain = e.drain; held = e.held; due = e.due }

-- each node with its parent
abbrev pub shape : List Entry → List (ℕ × Option ℕ)
shape es = places (map node_of es)

-- each stored total equals the computed one; a node with a positive total has no delayed count; a node without a delayed count has no due
-- time
abbrev pub IsConsistent : List Entry → Type 0
IsConsistent [] = Unit {0}
IsConsistent (e ∷ newer) = (e.total ≡ total (map node_of (e ∷ newer)) e.node) × (0 < e.total → e.held ≡ 0) × (e.held ≡ 0 → e.due ≡ 0) × IsConsistent newer

-- the limits of the stored numbers: a total and a delayed count are at most 10^18, a drain time is at most 10^15 ticks
abbrev pub Fits : List Entry → Type 0
Fits [] = Unit {0}
Fits (e ∷ newer) = (e.total ≤ 10 ^ 18) × (e.held ≤ 10 ^ 18) × (e.drain ≤ 10 ^ 15) × Fits newer

-- the number of further nodes for which both the entries and the table of their indices have capacity
abbrev pub room_in : {Z S : Type 0} → Vec Entry Z → HashMap ℕ ℕ S → ℕ
room_in entries table = min (vec_capacity entries - vec_len entries) (spare table)

-- the invariant of an objection
pub record IsObjection (o : Inside) : Type 0 where
  pub tree : IsTree (shape (o.top ∷ o.entries.items))
  pub placed : ArePlaced o.places (shape o.entries.items)
  pub kept : IsConsistent (o.top ∷ o.entries.items)
  pub fits : Fits (o.top ∷ o.entries.items)
