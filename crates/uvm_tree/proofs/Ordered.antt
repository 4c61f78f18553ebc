-- The nodes of a tree in order.
use Rattle.uvm_tree.proofs.Common.{◌≡◌, ◌<◌, false, [], ◌∷◌, Some, None, length, refl, ap, on_total, CmpEqualImpliesEq, exact_bytes, All-contains, Ordering, Less, Equal, Greater, IsTotalOrder, slice_cmp, is_lt, nat_cmp, ordering_then, ordering_reverse, Direction, Down, Up, down_cmp, up_cmp, order_of, path_at, AreNodesOrdered, OneIsLeast}

both_equal : (a b : Ordering) → ordering_then a b ≡ Equal → (a ≡ Equal) × (b ≡ Equal)
both_equal Less b e = cc
both_equal Equal b e = (refl, e)
both_equal Greater b e = cc

-- two paths that no order tells apart are one
down_apart : CmpEqualImpliesEq down_cmp
down_apart [] [] e = refl
down_apart [] (y ∷ ys) e = cc
down_apart (x ∷ xs) [] e = cc
down_apart (x ∷ xs) (y ∷ ys) e =
    let both = both_equal (slice_cmp nat_cmp x y) (down_cmp xs ys) e in
    λ i. exact_bytes x y both.0 i ∷ down_apart xs ys both.1 i

up_apart : CmpEqualImpliesEq up_cmp
up_apart [] [] e = refl
up_apart [] (y ∷ ys) e = cc
up_apart (x ∷ xs) [] e = cc
up_apart (x ∷ xs) (y ∷ ys) e =
    let both = both_equal (slice_cmp nat_cmp x y) (up_cmp xs ys) e in
    λ i. exact_bytes x y both.0 i ∷ up_apart xs ys both.1 i

apart : (direction : Direction) → CmpEqualImpliesEq (order_of direction)
apart Down = down_apart
apart Up = up_apart

pub nodes_are_ordered : ((direction : Direction) → IsTotalOrder (order_of direction)) → AreNodesOrdered
nodes_are_ordered total nodes are direction = record {
  total = on_total (path_at nodes) (total direction);
  apart = λ m n here there e. are.apart m n here there (apart direction (path_at nodes m) (path_at nodes n) e);
}

-- two of which neither stands before the other are equal
pub neither : (a b : Ordering) → a ≡ ordering_reverse b → is_lt a ≡ false → is_lt b ≡ false → a ≡ Equal
neither Less b e low high = cc
neither Equal b e low high = refl
neither Greater Less e low high = cc
neither Greater Equal e low high = cc
neither Greater Greater e low high = cc

pub one_is_least : OneIsLeast
one_is_least nodes cmp orders numbers within None None first second = refl
one_is_least nodes cmp orders numbers within None (Some n) first second = let empty = first.none.0 refl in let f = second.none.1 empty in cc
one_is_least nodes cmp orders numbers within (Some m) None first second = let empty = second.none.0 refl in let f = first.none.1 empty in cc
one_is_least nodes cmp orders numbers within (Some m) (Some n) first second =
    let low : is_lt (cmp m n) ≡ false = All-contains (λ k. is_lt (cmp k n) ≡ false) numbers m second.first first.member in
    let high : is_lt (cmp n m) ≡ false = All-contains (λ k. is_lt (cmp k m) ≡ false) numbers n first.first second.member in
    let here = All-contains (λ k. k < length nodes) numbers m within first.member in
    let there = All-contains (λ k. k < length nodes) numbers n within second.member in
    ap (λ k. Some k) (orders.apart m n here there (neither (cmp m n) (cmp n m) (orders.total.antisymm m n) low high))
