-- The nodes of a tree with their objection counts, in the order in which they were added: a parent precedes its children.
use Rattle.std.specs.Prelude.{ℕ, Bool, ◌==◌, ◌+◌, ◌-◌, List, length, map, find, Option, Some, None, if◌then◌else◌}
use Rattle.std.specs.List.{list_any}
use Rattle.std.specs.Option.{option_map_or}

-- a node: its parent (absent for the root), the count raised at it, its drain time, its delayed count, and its due time (0 without a
-- delayed count); times are in ticks
pub record Node : Type 0 where
  pub node : ℕ
  pub parent : Option ℕ
  pub source : ℕ
  pub drain : ℕ
  pub held : ℕ
  pub due : ℕ

-- an objection as contracts see it: the nodes, and the number of further nodes for which capacity is reserved
pub record ObjectionValue : Type 0 where
  pub nodes : List Node
  pub spare : ℕ

-- how many nodes an objection can have before it allocates memory
abbrev pub capacity_of : ObjectionValue → ℕ
capacity_of objection = length objection.nodes + objection.spare

-- the root, at which nothing is raised
abbrev pub top : Node
top = record { node = 0; parent = None; source = 0; drain = 0; held = 0; due = 0 }

-- a node that is added under a parent, at which nothing is raised
abbrev pub new_node : ℕ → ℕ → Node
new_node node parent = record { node = node; parent = Some parent; source = 0; drain = 0; held = 0; due = 0 }

-- whether a node is one of these nodes
abbrev pub is_known : ℕ → List Node → Bool
is_known node nodes = list_any (λ e. e.node == node) nodes

-- the count raised at a node, 0 if there is no such node
abbrev pub source_of : ℕ → List Node → ℕ
source_of node nodes = option_map_or (λ e. e.source) (find (λ e. e.node == node) nodes) 0

-- the drain time of a node in ticks, 0 if there is no such node
abbrev pub drain_of : ℕ → List Node → ℕ
drain_of node nodes = option_map_or (λ e. e.drain) (find (λ e. e.node == node) nodes) 0

-- the delayed count of a node, 0 if there is no such node
abbrev pub held_of : ℕ → List Node → ℕ
held_of node nodes = option_map_or (λ e. e.held) (find (λ e. e.node == node) nodes) 0

-- the time in ticks at which a node's drain is due, 0 if there is no such node
abbrev pub due_of : ℕ → List Node → ℕ
due_of node nodes = option_map_or (λ e. e.due) (find (λ e. e.node == node) nodes) 0

-- the nodes with a change at one of them
abbrev pub changed_at : ℕ → (Node → Node) → List Node → List Node
changed_at node change nodes = map (λ e. if node == e.node then change e else e) nodes

-- the nodes after a count is raised at one of them
abbrev pub raised : ℕ → ℕ → List Node → List Node
raised node count nodes = changed_at node (λ e. record e { source = e.source + count }) nodes

-- the nodes after a count is dropped at one of them
abbrev pub dropped : ℕ → ℕ → List Node → List Node
dropped node count nodes = changed_at node (λ e. record e { source = e.source - count }) nodes

-- the nodes after the delayed count of one of them is removed
abbrev pub released : ℕ → List Node → List Node
released node nodes = changed_at node (λ e. record e { held = 0; due = 0 }) nodes

-- the nodes after one of them has another drain time
abbrev pub with_drain : ℕ → ℕ → List Node → List Node
with_drain node drain nodes = changed_at node (λ e. record e { drain = drain }) nodes
