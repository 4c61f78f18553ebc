-- The state of the iteration over the children of a node, which goes on after the last child returned.
use Rattle.std.specs.Prelude.{ℕ, Bool, true, ◌&&◌, List, filter, Option, Some, None}
use Rattle.uvm_tree.specs.Nodes.{Node}
use Rattle.uvm_tree.specs.Children.{ChildrenValue, is_named_before, is_under}
use Rattle.uvm_tree.specs.Cursors.{numbers_of}

-- the nodes of a tree, the node whose children are returned, and the child that was returned last, if any
pub record CursorValue : Type 0 where
  pub nodes : List Node
  pub parent : ℕ
  pub last : Option ℕ

-- whether the name of a node follows that of the child returned last, if any
abbrev pub is_named_after : List Node → Option ℕ → ℕ → Bool
is_named_after nodes None n = true
is_named_after nodes (Some m) n = is_named_before nodes m n

-- whether a node is a child that is still to be returned
abbrev pub is_left : CursorValue → ℕ → Bool
is_left s n = is_under s.nodes s.parent n && is_named_after s.nodes s.last n

-- the children that are still to be returned
abbrev pub children_left : CursorValue → List ℕ
children_left s = filter (is_left s) (numbers_of s.nodes)

-- the state as contracts see it
abbrev pub seen : CursorValue → ChildrenValue
seen s = record { nodes = s.nodes; left = children_left s }
