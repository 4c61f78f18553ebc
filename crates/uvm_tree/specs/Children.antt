-- The children of a node in the order of their names.
use Rattle.std.specs.Prelude.{◌≡◌, ℕ, Bool, false, not, ◌==◌, List, ◌++◌, filter, IsPermutation, Option, Some, None, option_map, option_and_then}
use Rattle.std.specs.Option.{option_map_or, option_cmp, option_to_list}
use Rattle.std.specs.Ordering.{is_lt, nat_cmp}
use Rattle.std.specs.Cmp.Lexicographic.{slice_cmp}
use Rattle.uvm_tree.specs.Nodes.{Node, node_at, parent_of}
use Rattle.uvm_tree.specs.Cursors.{IsLeast, numbers_of}

-- the nodes of a tree, and the numbers of the children that are still to be returned
pub record ChildrenValue : Type 0 where
  pub nodes : List Node
  pub left : List ℕ

-- the name of a node under its parent, `None` for the root
abbrev pub own_name : Node → Option (List ℕ)
own_name node = option_map (λ under. under.1) node.under

-- the name of the node with a number, `None` for the root and if there is no such node
abbrev pub name_at : List Node → ℕ → Option (List ℕ)
name_at nodes id = option_and_then own_name (node_at nodes id)

-- whether the name of one node precedes that of another, in byte order; no name precedes every name
abbrev pub is_named_before : List Node → ℕ → ℕ → Bool
is_named_before nodes m n = is_lt (option_cmp (slice_cmp nat_cmp) (name_at nodes m) (name_at nodes n))

-- whether a node is a child of another
abbrev pub is_under : List Node → ℕ → ℕ → Bool
is_under nodes parent n = option_map_or (λ above. above == parent) (option_and_then parent_of (node_at nodes n)) false

-- the children of a node
abbrev pub children_of : List Node → ℕ → List ℕ
children_of nodes parent = filter (is_under nodes parent) (numbers_of nodes)

-- the state in which all children of a node are still to be returned
abbrev pub all_children : List Node → ℕ → ChildrenValue
all_children nodes parent = record { nodes = nodes; left = children_of nodes parent }

-- the numbers without a given one, if one is given
abbrev pub without : Option ℕ → List ℕ → List ℕ
without None numbers = numbers
without (Some n) numbers = filter (λ m. not (m == n)) numbers

-- a call returns the child with the least name of those that are left, `None` if none is left; the other children are left afterwards
pub record GivesNextChild (s : ChildrenValue) (given : Option ℕ) (t : ChildrenValue) : Type 0 where
  pub least : IsLeast (is_named_before s.nodes) s.left given
  pub others : IsPermutation s.left (option_to_list given ++ t.left)
  pub rest : t ≡ record s { left = without given s.left }
