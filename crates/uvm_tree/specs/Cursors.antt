-- The nodes of a tree in an order of their paths.
use Rattle.std.specs.Prelude.{◌≡◌, ◌↔◌, ◌<◌, ℕ, Bool, true, false, ◌&&◌, ◌-◌, List, [], length, filter, fold, All, Contains, Option, Some, None, IsNone, IfSome, is_some, if◌then◌else◌}
use Rattle.std.specs.declared.cmp.Ordering.{Ordering}
use Rattle.std.specs.declared.cmp.Ordering.TheVariants.{Equal}
use Rattle.std.specs.Cmp.{IsTotalOrder}
use Rattle.std.specs.Ordering.{is_lt}
use Rattle.std.specs.List.{range_with_len}
use Rattle.uvm_glob.specs.declared.orders.Direction.{Direction}
use Rattle.uvm_glob.specs.Orders.{PathOrder, order_of}
use Rattle.uvm_tree.specs.Nodes.{Node, AreNodes, node_at, path_at}

-- whether the path of one node precedes that of another
abbrev pub is_before : PathOrder → List Node → ℕ → ℕ → Bool
is_before order nodes m n = is_lt (order (path_at nodes m) (path_at nodes n))

-- the one of two numbers that precedes the other; the first if neither does
abbrev pub sooner : (ℕ → ℕ → Bool) → Option ℕ → ℕ → Option ℕ
sooner before None n = Some n
sooner before (Some best) n = if before n best then Some n else Some best

-- the least of some numbers, `None` if there are none
abbrev pub least : (ℕ → ℕ → Bool) → List ℕ → Option ℕ
least before numbers = fold (sooner before) None numbers

-- `found` is the least of some numbers: `None` if there are none, otherwise one of them that no other precedes
pub record IsLeast (before : ℕ → ℕ → Bool) (numbers : List ℕ) (found : Option ℕ) : Type 0 where
  pub none : IsNone found ↔ (numbers ≡ [])
  pub member : IfSome found (Contains numbers)
  pub first : IfSome found (λ n. All (λ m. before m n ≡ false) numbers)

-- `least` returns the least number in each total order
abbrev pub LeastIsLeast : Type 0
LeastIsLeast = (cmp : ℕ → ℕ → Ordering) → IsTotalOrder cmp → (numbers : List ℕ) → IsLeast (λ m n. is_lt (cmp m n)) numbers (least (λ m n. is_lt (cmp m n)) numbers)

-- the numbers of the nodes except the root
abbrev pub numbers_of : List Node → List ℕ
numbers_of nodes = range_with_len 1 (length nodes - 1)

-- whether a node follows a given one: every node does if none is given, and no node does if the given one is not in the tree
abbrev pub is_after : PathOrder → List Node → Option ℕ → ℕ → Bool
is_after order nodes None n = true
is_after order nodes (Some m) n = is_some (node_at nodes m) && is_before order nodes m n

-- the nodes except the root that follow a given one, or all of them if none is given
abbrev pub nodes_after : PathOrder → List Node → Option ℕ → List ℕ
nodes_after order nodes after = filter (is_after order nodes after) (numbers_of nodes)

-- how two nodes compare by their paths
abbrev pub node_cmp : PathOrder → List Node → ℕ → ℕ → Ordering
node_cmp order nodes m n = order (path_at nodes m) (path_at nodes n)

-- a comparison orders the nodes: it is total, and no two nodes are equal in it
pub record OrdersNodes (nodes : List Node) (cmp : ℕ → ℕ → Ordering) : Type 0 where
  pub total : IsTotalOrder cmp
  pub apart : (m n : ℕ) → m < length nodes → n < length nodes → cmp m n ≡ Equal → m ≡ n

-- the nodes of a tree are ordered by their paths, in each direction
abbrev pub AreNodesOrdered : Type 0
AreNodesOrdered = (nodes : List Node) → AreNodes nodes → (direction : Direction) → OrdersNodes nodes (node_cmp (order_of direction) nodes)

-- if the nodes are ordered, some of them have exactly one least node
abbrev pub OneIsLeast : Type 0
OneIsLeast = (nodes : List Node) (cmp : ℕ → ℕ → Ordering) → OrdersNodes nodes cmp → (numbers : List ℕ) → All (λ n. n < length nodes) numbers → (found other : Option ℕ) → IsLeast (λ m n. is_lt (cmp m n)) numbers found → IsLeast (λ m n. is_lt (cmp m n)) numbers other → found ≡ other
