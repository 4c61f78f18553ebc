-- The orders of paths are total.
use Rattle.uvm_glob.proofs.Common.{◌≡◌, ℕ, List, [], ◌∷◌, Option, Some, None, refl, ap, subst, Ordering, nat_cmp, ordering_then, flip_args, option_cmp, IsTotalOrder, on_total, back_total, slice_cmp, lists_total, options_total, nat_list_cmp_total, Direction, Down, Up, up_cmp, order_of}

-- the names of a path, and its end
abbrev with_end : List (List ℕ) → List (Option (List ℕ))
with_end [] = None ∷ []
with_end (x ∷ xs) = Some x ∷ with_end xs

-- the order of names, with the end after every name
abbrev end_last : Option (List ℕ) → Option (List ℕ) → Ordering
end_last = flip_args (option_cmp (flip_args (slice_cmp nat_cmp)))

-- Up goes name by name, with the end as a last name
by_ends : (xs ys : List (List ℕ)) → slice_cmp end_last (with_end xs) (with_end ys) ≡ up_cmp xs ys
by_ends [] [] = refl
by_ends [] (y ∷ ys) = refl
by_ends (x ∷ xs) [] = refl
by_ends (x ∷ xs) (y ∷ ys) = ap (ordering_then (slice_cmp nat_cmp x y)) (by_ends xs ys)

up_total : IsTotalOrder up_cmp
up_total =
    subst IsTotalOrder (λ i xs ys. by_ends xs ys i)
    (on_total with_end (lists_total (back_total (options_total (back_total nat_list_cmp_total)))))

pub orders_are_total : (direction : Direction) → IsTotalOrder (order_of direction)
orders_are_total Down = lists_total nat_list_cmp_total
orders_are_total Up = up_total
