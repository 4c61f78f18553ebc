-- The nodes of a tree in path order, as a list.
use Rattle.std.specs.Prelude.{◌≡◌, ℕ, Bool, false, List, [], fold, insert, IsPermutation, AllPairs}
use Rattle.std.specs.List.{position_or_len}
use Rattle.uvm_glob.specs.Orders.{down_cmp}
use Rattle.uvm_tree.specs.Nodes.{Node}
use Rattle.uvm_tree.specs.Cursors.{is_before, numbers_of}

-- the numbers with one more, inserted before the first number that it precedes
abbrev pub inserted : (ℕ → ℕ → Bool) → ℕ → List ℕ → List ℕ
inserted before n numbers = insert numbers (position_or_len (before n) numbers) n

-- some numbers, sorted
abbrev pub sorted : (ℕ → ℕ → Bool) → List ℕ → List ℕ
sorted before numbers = fold (λ order n. inserted before n order) [] numbers

-- the nodes except the root, in path order
unfoldable pub path_order : List Node → List ℕ
path_order nodes = sorted (is_before down_cmp nodes) (numbers_of nodes)

-- `order` has each node except the root once, and no node before one that precedes it
pub record AreInPathOrder (nodes : List Node) (order : List ℕ) : Type 0 where
  pub whole : IsPermutation (numbers_of nodes) order
  pub ordered : AllPairs (λ m n. is_before down_cmp nodes n m ≡ false) order

-- the law that `path_order` satisfies `AreInPathOrder`
abbrev pub PathOrderIsInOrder : Type 0
PathOrderIsInOrder = (nodes : List Node) → AreInPathOrder nodes (path_order nodes)
