-- The nodes of a tree in the order of their numbers, the root first.
use Rattle.std.specs.Prelude.{◌≡◌, ◌<◌, ℕ, Bool, false, ◌&&◌, ◌==◌, List, [], ◌∷◌, ◌++◌, length, nat_lt, nat_eq, Option, Some, None, IsSome, All, slice_get, option_map, option_and_then, is_some, is_none, position}
use Rattle.std.specs.List.{list_any}
use Rattle.std.specs.Option.{ForSome, option_map_or}
use Rattle.std.specs.Cmp.Lexicographic.{pointwise}
use Rattle.uvm_glob.specs.Lists.{first_given}
use Rattle.uvm_glob.specs.Faults.{fault_if}
use Rattle.uvm_glob.specs.Paths.{path_fault}
use Rattle.uvm_tree.specs.declared.nodes.NodeKind.{NodeKind}
use Rattle.uvm_tree.specs.declared.nodes.NodeKind.TheVariants.{Component}
use Rattle.uvm_tree.specs.declared.faults.TreeFault.{TreeFault}
use Rattle.uvm_tree.specs.declared.faults.TreeFault.TheVariants.{NoParent, NameTaken, TooDeep, Full, Memory}

-- a node: its parent and its name under it (both absent for the root), its path, and its kind
pub record Node : Type 0 where
  pub under : Option (ℕ × List ℕ)
  pub path : List (List ℕ)
  pub kind : NodeKind

-- the largest number of nodes, not counting the root
abbrev pub most_nodes : ℕ
most_nodes = 4096

-- the nodes in the order of their numbers, the root first, and the parent for whose next child capacity is reserved
pub record TreeValue : Type 0 where
  pub nodes : List Node
  pub spare : Option ℕ

-- the root
abbrev pub top : Node
top = record { under = None; path = []; kind = Component }

-- the node with a number
abbrev pub node_at : List Node → ℕ → Option Node
node_at nodes id = slice_get nodes id

-- the path of a node, empty if there is no such node
abbrev pub path_at : List Node → ℕ → List (List ℕ)
path_at nodes id = option_map_or (λ node. node.path) (node_at nodes id) []

-- whether two paths are equal
abbrev pub is_path : List (List ℕ) → List (List ℕ) → Bool
is_path = pointwise (pointwise nat_eq)

-- the number of the node with a path
abbrev pub number_at : List Node → List (List ℕ) → Option ℕ
number_at nodes path = position (λ node. is_path node.path path) nodes

-- the number of the parent of a node
abbrev pub parent_of : Node → Option ℕ
parent_of node = option_map (λ under. under.0) node.under

-- the parent of the node with a number, and its name under it; `None` for the root and if there is no such node
abbrev pub under_at : List Node → ℕ → Option (ℕ × List ℕ)
under_at nodes id = option_and_then (λ node. node.under) (node_at nodes id)

-- these are the nodes of a tree: the root is first; each other node has a parent that precedes it; the path of a node is its parent's path
-- with its name; no two nodes have the same path
pub record AreNodes (nodes : List Node) : Type 0 where
  pub top_first : node_at nodes 0 ≡ Some top
  pub others : (id : ℕ) → 0 < id → id < length nodes → IsSome (under_at nodes id)
  pub parents : (id : ℕ) → ForSome (under_at nodes id) (λ under. under.0 < id)
  pub paths : (id : ℕ) → ForSome (under_at nodes id) (λ under. path_at nodes id ≡ path_at nodes under.0 ++ under.1 ∷ [])
  pub apart : (m n : ℕ) → m < length nodes → n < length nodes → path_at nodes m ≡ path_at nodes n → m ≡ n

-- no path of a node has an error
abbrev pub AreSound : List Node → Type 0
AreSound nodes = All (λ node. path_fault node.path ≡ None) nodes

-- no two children of one parent have the same name
abbrev pub AreSiblingsApart : Type 0
AreSiblingsApart = (nodes : List Node) → AreNodes nodes → (m n : ℕ) → ForSome (under_at nodes m) (λ under. under_at nodes n ≡ Some under → m ≡ n)

-- whether the node is the child of a given parent with a given name
abbrev pub is_child : ℕ → List ℕ → Node → Bool
is_child parent name node = option_map_or (λ under. under.0 == parent && pointwise nat_eq under.1 name) node.under false

-- the node that is added under a parent for a name and a kind
abbrev pub child : List Node → ℕ → List ℕ → NodeKind → Node
child nodes parent name kind = record { under = Some (parent, name); path = path_at nodes parent ++ name ∷ []; kind = kind }

-- the error that a result reports about the arguments; `Memory` reports none
abbrev pub refusal : TreeFault → Option TreeFault
refusal NoParent = Some NoParent
refusal NameTaken = Some NameTaken
refusal TooDeep = Some TooDeep
refusal Full = Some Full
refusal Memory = None

-- the first error, in order, that forbids a node with this name under this parent
unfoldable pub add_fault : List Node → ℕ → List ℕ → Option TreeFault
add_fault nodes parent name =
    first_given (
    fault_if (is_none (node_at nodes parent)) NoParent
    ∷ fault_if (list_any (is_child parent name) nodes) NameTaken
    ∷ fault_if (is_some (path_fault (path_at nodes parent ++ name ∷ []))) TooDeep
    ∷ fault_if (nat_lt most_nodes (length nodes)) Full
    ∷ [])

-- the root alone satisfies `AreNodes`, and nodes that satisfy it still do after one more is added without an error
pub record NodesGrow : Type 0 where
  pub begins : AreNodes (top ∷ [])
  pub added : (nodes : List Node) (parent : ℕ) (name : List ℕ) (kind : NodeKind) → AreNodes nodes → add_fault nodes parent name ≡ None → AreNodes (nodes ++ child nodes parent name kind ∷ [])
