-- The place of the first element of a list that passes a test.
use Rattle.uvm_tree.proofs.Common.{◌≡◌, ◌<◌, ℕ, zero, suc, ◌+◌, Bool, true, false, not, List, [], ◌∷◌, length, get_or, slice_get, Option, Some, None, refl, ap, ◌∙◌, arith, nat_lt, position, option_map, cond, nat_tests, prefix_len}

here : (l : ℕ) → cond {A = Option ℕ} (nat_lt 0 (suc l)) (Some 0) None ≡ Some 0
here l = grind (arith, nat_tests)

later : (n l : ℕ) → cond {A = Option ℕ} (nat_lt (1 + n) (suc l)) (Some (1 + n)) None ≡ option_map (λ place. place + 1) (cond (nat_lt n l) (Some n) None)
later n l = grind (arith, nat_tests)

pub position-here : {X : Type 0} (p : X → Bool) (x : X) (xs : List X) → p x ≡ true → position p (x ∷ xs) ≡ Some 0
position-here p x xs e = rw e (here (length xs))

pub position-later : {X : Type 0} (p : X → Bool) (x : X) (xs : List X) → p x ≡ false → position p (x ∷ xs) ≡ option_map (λ place. place + 1) (position p xs)
position-later p x xs e = rw e (later (prefix_len (λ x. not (p x)) xs) (length xs))

pub first-at : {X : Type 0} (p : X → Bool) (xs : List X) (i : ℕ) (x : X) → slice_get xs i ≡ Some x → p x ≡ true → ((k : ℕ) (d : X) → k < i → k < length xs → p (get_or xs k d) ≡ false) → position p xs ≡ Some i
first-at p [] i x at passes before = cc
first-at p (y ∷ ys) zero x at passes before = let same : y ≡ x = cc in position-here p y ys (ap p same ∙ passes)
first-at p (y ∷ ys) (suc i) x at passes before =
    let rest = first-at p ys i x at passes (λ k d low within. before (suc k) d (omega arith) (omega arith)) in
    position-later p y ys (before 0 y (omega arith) (omega arith)) ∙ ap (option_map (λ place. place + 1)) rest ∙ ap (λ (n : ℕ). Some n) (omega arith)

pub none-at : {X : Type 0} (p : X → Bool) (xs : List X) → ((k : ℕ) (d : X) → k < length xs → p (get_or xs k d) ≡ false) → position p xs ≡ None
none-at p [] none = refl
none-at p (y ∷ ys) none =
    position-later p y ys (none 0 y (omega arith)) ∙ ap (option_map (λ place. place + 1)) (none-at p ys (λ k d within. none (suc k) d (omega arith)))
