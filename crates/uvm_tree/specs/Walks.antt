-- The nodes below a node, and the next node that a walk through the tree finds.
use Rattle.std.specs.Prelude.{◌≡◌, ◌<◌, ℕ, true, false, List, ◌++◌, length, Option, IfSome, IfNone}
use Rattle.uvm_glob.specs.Orders.{down_cmp, up_cmp}
use Rattle.uvm_tree.specs.Nodes.{Node, path_at}
use Rattle.uvm_tree.specs.Cursors.{is_before}

-- a node is below another, or is that node: the path of `n` begins with the path of `above`
abbrev pub IsBelow : List Node → ℕ → ℕ → Type 0
IsBelow nodes above n = (rest : List (List ℕ)) × (path_at nodes n ≡ path_at nodes above ++ rest)

-- `found` is the next node in top-down order that is not below a given node
pub record IsBeside (nodes : List Node) (node : ℕ) (found : Option ℕ) : Type 0 where
  pub none : IfNone found ((n : ℕ) → n < length nodes → is_before down_cmp nodes node n ≡ true → (IsBelow nodes node n → ⊥) → ⊥)
  pub inside : IfSome found (λ c. (0 < c) × (c < length nodes))
  pub behind : IfSome found (λ c. is_before down_cmp nodes node c ≡ true)
  pub first : IfSome found (λ c. (n : ℕ) → n < length nodes → is_before down_cmp nodes node n ≡ true → (IsBelow nodes node n → ⊥) → is_before down_cmp nodes n c ≡ false)
  pub apart : IfSome found (λ c. IsBelow nodes node c → ⊥)

-- `found` is the first in bottom-up order of a node and the nodes below it
pub record IsFirstBelow (nodes : List Node) (above found : ℕ) : Type 0 where
  pub inside : found < length nodes
  pub below : IsBelow nodes above found
  pub first : (n : ℕ) → n < length nodes → IsBelow nodes above n → is_before up_cmp nodes n found ≡ false
