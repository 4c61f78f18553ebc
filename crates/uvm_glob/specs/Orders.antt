-- The two orders of paths, one for each direction.
use Rattle.std.specs.Prelude.{ℕ, List, [], ◌∷◌}
use Rattle.std.specs.declared.cmp.Ordering.{Ordering}
use Rattle.std.specs.declared.cmp.Ordering.TheVariants.{Less, Equal, Greater}
use Rattle.std.specs.Ordering.{ordering_then, nat_cmp}
use Rattle.std.specs.Cmp.Lexicographic.{slice_cmp}
use Rattle.uvm_glob.specs.declared.orders.Direction.{Direction}
use Rattle.uvm_glob.specs.declared.orders.Direction.TheVariants.{Down, Up}

-- an order of paths
abbrev pub PathOrder : Type 0
PathOrder = List (List ℕ) → List (List ℕ) → Ordering

-- the order `Down`: name by name in byte order, and a path before its descendants
abbrev pub down_cmp : PathOrder
down_cmp = slice_cmp (slice_cmp nat_cmp)

-- the order `Up`: name by name in byte order, and a path after its descendants
abbrev pub up_cmp : PathOrder
up_cmp [] [] = Equal
up_cmp [] (y ∷ ys) = Greater
up_cmp (x ∷ xs) [] = Less
up_cmp (x ∷ xs) (y ∷ ys) = ordering_then (slice_cmp nat_cmp x y) (up_cmp xs ys)

-- the order of a direction
abbrev pub order_of : Direction → PathOrder
order_of Down = down_cmp
order_of Up = up_cmp
