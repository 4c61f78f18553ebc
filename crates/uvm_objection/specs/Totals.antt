-- Totals and delayed counts.
use Rattle.std.specs.Prelude.{ℕ, Bool, false, ◌&&◌, ◌==◌, ◌+◌, nat_lt, List, [], ◌∷◌, filter, map, sum_by, if◌then◌else◌}
use Rattle.std.specs.Option.{option_map_or}
use Rattle.uvm_objection.specs.Nodes.{Node, held_of}
use Rattle.uvm_objection.specs.declared.objections.Due.{Due}

-- whether a node is a child of another
abbrev pub is_child : ℕ → Node → Bool
is_child parent e = option_map_or (λ above. above == parent) e.parent false

-- the total of a node: the count raised at it, and the total and the delayed count of each of its children
abbrev pub total : List Node → ℕ → ℕ
total [] node = 0
total (e ∷ newer) node = if e.node == node then e.source + sum_by (λ child. total newer child.node + child.held) (filter (is_child e.node) newer) else total newer node

-- the count that still keeps the phase from ending: the root's total and its delayed count
abbrev pub standing : List Node → ℕ
standing nodes = total nodes 0 + held_of 0 nodes

-- whether a drain begins: the total fell from positive to zero, and the drain time is not zero
abbrev pub begins : ℕ → ℕ → ℕ → Bool
begins before after drain = nat_lt 0 before && (after == 0) && nat_lt 0 drain

-- the delayed count of a node after its total changed: 0 if that is positive, the old total if its drain begins, otherwise the same
abbrev pub held_after : ℕ → ℕ → ℕ → ℕ → ℕ
held_after before after drain held = if nat_lt 0 after then 0 else (if begins before after drain then before else held)

-- the time at which a node's drain is due after its total changed: 0 if that is positive, `time + drain` if its drain begins, otherwise
-- the same
abbrev pub due_after : ℕ → ℕ → ℕ → ℕ → ℕ → ℕ
due_after time before after drain due = if nat_lt 0 after then 0 else (if begins before after drain then time + drain else due)

-- a node with its delayed count and due time after a change of its total at a time
abbrev pub settled_node : ℕ → ℕ → ℕ → Node → Node
settled_node time before after e = record e { held = held_after before after e.drain e.held; due = due_after time before after e.drain e.due }

-- the nodes, each settled after the nodes below it, at a time, given the totals before the change
abbrev pub settled : ℕ → (ℕ → ℕ) → List Node → List Node
settled time before [] = []
settled time before (e ∷ newer) =
    let below = settled time before newer in settled_node time (before e.node) (total (e ∷ below) e.node) e ∷ below

-- the drains that began between two states: at nodes without a delayed count before and with one after
abbrev pub drains_begun : List Node → List Node → List Due
drains_begun earlier nodes = map (λ e. record { node = e.node; at = e.due }) (filter (λ e. (held_of e.node earlier == 0) && nat_lt 0 e.held) nodes)

-- the nodes whose drain ended between two states: those with a delayed count before and none after
abbrev pub drains_ended : List Node → List Node → List ℕ
drains_ended earlier nodes = map (λ e. e.node) (filter (λ e. nat_lt 0 (held_of e.node earlier) && (e.held == 0)) nodes)
