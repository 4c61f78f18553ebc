-- The propagation of a change to the nodes above it.
use Rattle.std.specs.Prelude.{ℕ, Bool, false, ◌&&◌, ◌==◌, ◌+◌, ◌-◌, ◌*◌, ◌^◌, ◌<◌, ◌≤◌, nat_lt, List, [], ◌∷◌, IsTrue, Some, None, if◌then◌else◌}
use Rattle.std.specs.Option.{option_map_or}
use Rattle.uvm_objection.specs.declared.nodes.Change.{Change}
use Rattle.uvm_objection.specs.declared.nodes.Entry.{Entry}
use Rattle.uvm_objection.specs.declared.walks.Walk.{Walk}
use Rattle.uvm_objection.specs.Changes.{entry_changed}
use Rattle.uvm_objection.specs.Totals.{held_after, due_after}

-- an entry with a new total at a time, and the delayed count and due time that follow
abbrev pub entry_settled : ℕ → ℕ → Entry → Entry
entry_settled time after e = record e { total = after; held = held_after e.total after e.drain e.held; due = due_after time e.total after e.drain e.due }

-- the walk of a change before it visits a node
abbrev pub start_of : Change → Walk
start_of c = record { at = Some c.node; before = 0; after = 0; began = None; ended = None }

-- whether the walk visits a node next
abbrev pub is_at_node : Walk → ℕ → Bool
is_at_node w node = option_map_or (λ at. at == node) w.at false

-- whether the walk visits an entry next
abbrev pub is_at : Walk → Entry → Bool
is_at w e = is_at_node w e.node

-- the entry that the walk visits, after the visit
abbrev pub entry_next : Change → Walk → Entry → Entry
entry_next c w e = let f = entry_changed c e in entry_settled c.time (e.total - e.source - w.before + f.source + w.after) f

-- the walk after a visit that changed entry `e` to entry `f`
abbrev pub walk_next : Walk → Entry → Entry → Walk
walk_next w e f = record {
  at = e.parent;
  before = e.total + e.held;
  after = f.total + f.held;
  began = if (e.held == 0) && nat_lt 0 f.held then Some (record { node = e.node; at = f.due }) else w.began;
  ended = if nat_lt 0 e.held && (f.held == 0) then Some e.node else w.ended;
}

-- an entry after the walk has passed it: changed if the walk visits it, otherwise the same
abbrev pub entry_after : Change → Walk → Entry → Entry
entry_after c w e = if is_at w e then entry_next c w e else e

-- the walk after it has passed an entry: moved to its parent if the walk visits it, otherwise the same
abbrev pub walk_after : Change → Walk → Entry → Walk
walk_after c w e = if is_at w e then walk_next w e (entry_next c w e) else w

-- the entries and the walk after it has passed them, the last entry first
pub record Walked : Type 0 where
  pub entries : List Entry
  pub walk : Walk

-- the result of the walk of a change through all entries, from the last to the first
abbrev pub walked : Change → List Entry → Walked
walked c [] = record { entries = []; walk = start_of c }
walked c (e ∷ newer) =
    let below = walked c newer in record { entries = entry_after c below.walk e ∷ below.entries; walk = walk_after c below.walk e }

-- the numbers of one visit stay within their limits
pub record CanStep (c : Change) (w : Walk) (e : Entry) : Type 0 where
  pub before : e.source + w.before ≤ e.total
  pub total : e.total ≤ 10 ^ 18
  pub held : e.held ≤ 10 ^ 18
  pub source : (entry_changed c e).source ≤ 2 * 10 ^ 18
  pub after : w.after ≤ w.before + 10 ^ 18
  pub due : c.time + (entry_changed c e).drain < 2 ^ 64
  pub next : (entry_next c w e).total + (entry_next c w e).held < 2 ^ 64

-- the numbers of each visit of the walk stay within their limits
abbrev pub CanWalk : Change → List Entry → Type 0
CanWalk c [] = Unit {0}
CanWalk c (e ∷ newer) = CanWalk c newer × (IsTrue (is_at (walked c newer).walk e) → CanStep c (walked c newer).walk e)
