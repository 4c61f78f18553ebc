-- The invariant of the nodes of every objection, and what follows from it.
use Rattle.std.specs.Prelude.{◌≡◌, ◌≢◌, ℕ, Bool, true, false, ◌||◌, ◌==◌, ◌+◌, ◌<◌, ◌≤◌, List, [], ◌∷◌, ◌++◌, map, filter, sum_by, All, Option, None, Some, IsTrue}
use Rattle.std.specs.Option.{option_map_or}
use Rattle.uvm_objection.specs.Nodes.{Node, top, new_node, is_known, source_of, drain_of, held_of, due_of, raised, dropped, released, with_drain}
use Rattle.uvm_objection.specs.Totals.{total, is_child, held_after, due_after, settled, drains_begun}
use Rattle.uvm_objection.specs.declared.objections.Due.{Due}

-- each node with its parent
abbrev pub places : List Node → List (ℕ × Option ℕ)
places nodes = map (λ e. (e.node, e.parent)) nodes

-- a node is at none of these places
abbrev pub IsNew : ℕ → List (ℕ × Option ℕ) → Type 0
IsNew node [] = Unit {0}
IsNew node (p ∷ ps) = (p.0 ≢ node) × IsNew node ps

-- each of these nodes occurs once, after its parent or under a parent that is known already
abbrev pub AreUnder : (ℕ → Bool) → List (ℕ × Option ℕ) → Type 0
AreUnder known [] = Unit {0}
AreUnder known (p ∷ ps) = (option_map_or known p.1 false ≡ true) × IsNew p.0 ps × AreUnder (λ node. (p.0 == node) || known node) ps

-- these are the root and the nodes under it
abbrev pub IsTree : List (ℕ × Option ℕ) → Type 0
IsTree [] = ⊥
IsTree (p ∷ ps) = (p.0 ≡ 0) × (p.1 ≡ None) × IsNew p.0 ps × AreUnder (λ node. p.0 == node) ps

-- these are the nodes of an objection: the root is first; each other node occurs once, after its parent; a node with a positive total has
-- no delayed count; a node without a delayed count has no due time
pub record AreNodes (nodes : List Node) : Type 0 where
  pub tree : IsTree (places nodes)
  pub positive : (node : ℕ) → 0 < total nodes node → held_of node nodes ≡ 0
  pub over : (node : ℕ) → held_of node nodes ≡ 0 → due_of node nodes ≡ 0

-- the law that a node with a positive total has no delayed count
abbrev pub PositiveTotalHoldsNothing : Type 0
PositiveTotalHoldsNothing = (nodes : List Node) → AreNodes nodes → (node : ℕ) → 0 < total nodes node → held_of node nodes ≡ 0

-- the law that the total of a node is its source, and the total and the delayed count of each of its children
abbrev pub TotalIsSum : Type 0
TotalIsSum = (nodes : List Node) → AreNodes nodes → (node : ℕ) → IsTrue (is_known node nodes) → total nodes node ≡ source_of node nodes + sum_by (λ child. total nodes child.node + child.held) (filter (is_child node) nodes)

-- a node after settling, by its totals before and after: its source and its drain time stay, and its delayed count and due time are
-- `held_after` and `due_after` of the two totals
pub record GoesByTotals (time : ℕ) (before : ℕ → ℕ) (nodes after : List Node) (node : ℕ) : Type 0 where
  pub source : source_of node after ≡ source_of node nodes
  pub drain : drain_of node after ≡ drain_of node nodes
  pub held : held_of node after ≡ held_after (before node) (total after node) (drain_of node nodes) (held_of node nodes)
  pub due : due_of node after ≡ due_after time (before node) (total after node) (drain_of node nodes) (due_of node nodes)

-- the law that settling changes each node as `GoesByTotals` states
abbrev pub SettledGoByTotals : Type 0
SettledGoByTotals = (time : ℕ) (before : ℕ → ℕ) (nodes : List Node) (node : ℕ) → GoesByTotals time before nodes (settled time before nodes) node

-- a drain is that of its node: it is due at the node's due time, and the node has a delayed count
pub record IsHeldUntilDue (nodes : List Node) (drain : Due) : Type 0 where
  pub due : due_of drain.node nodes ≡ drain.at
  pub held : 0 < held_of drain.node nodes

-- the law that each drain that began satisfies `IsHeldUntilDue`
abbrev pub BegunDrainsAreHeld : Type 0
BegunDrainsAreHeld = (earlier nodes : List Node) → AreNodes nodes → All (IsHeldUntilDue nodes) (drains_begun earlier nodes)

-- no call moves a node: the nodes stay in their order, an added one is appended, and the nodes with their parents determine which nodes
-- are known
pub record PlacesStay : Type 0 where
  pub added : (node parent : ℕ) (nodes : List Node) → places (nodes ++ new_node node parent ∷ []) ≡ places nodes ++ (node, Some parent) ∷ []
  pub settled : (time : ℕ) (before : ℕ → ℕ) (nodes : List Node) → places (settled time before nodes) ≡ places nodes
  pub raised : (node count : ℕ) (nodes : List Node) → places (raised node count nodes) ≡ places nodes
  pub dropped : (node count : ℕ) (nodes : List Node) → places (dropped node count nodes) ≡ places nodes
  pub released : (node : ℕ) (nodes : List Node) → places (released node nodes) ≡ places nodes
  pub with_drain : (node drain : ℕ) (nodes : List Node) → places (with_drain node drain nodes) ≡ places nodes
  pub known : (node : ℕ) (nodes others : List Node) → places others ≡ places nodes → is_known node others ≡ is_known node nodes

-- these are still the nodes of an objection, and the root's total grew by at most a count
pub record GrowsBy (count : ℕ) (before after : List Node) : Type 0 where
  pub nodes : AreNodes after
  pub most : total after 0 ≤ total before 0 + count

-- each call keeps `AreNodes`; a raise increases the root's total by at most its count, and no other call increases it
pub record ChangesGrow (nodes : List Node) : Type 0 where
  pub added : (node parent : ℕ) → is_known node nodes ≡ false → IsTrue (is_known parent nodes) → GrowsBy 0 nodes (nodes ++ new_node node parent ∷ [])
  pub raised : (time node count : ℕ) → GrowsBy count nodes (settled time (total nodes) (raised node count nodes))
  pub dropped : (time node count : ℕ) → GrowsBy 0 nodes (settled time (total nodes) (dropped node count nodes))
  pub released : (time node : ℕ) → GrowsBy 0 nodes (settled time (total nodes) (released node nodes))
  pub with_drain : (node drain : ℕ) → GrowsBy 0 nodes (with_drain node drain nodes)

-- the law that the root alone satisfies `AreNodes`, and that each call keeps this as `ChangesGrow` states
abbrev pub NodesGrow : Type 0
NodesGrow = AreNodes (top ∷ []) × ((nodes : List Node) → AreNodes nodes → ChangesGrow nodes)
