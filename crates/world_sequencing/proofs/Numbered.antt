-- The sequence of a number.
use Rattle.world_sequencing.proofs.Common.{◌≡◌, ℕ, suc, ◌≤◌, ◌<◌, ◌==◌, Bool, true, false, List, [], ◌∷◌, length, map, Some, None, option_map, refl, ap, ◌∙◌, subst, arith, if◌then◌else◌, nat_tests, length-map, All-head, All-tail, numbered}
use Rattle.std.specs.List.{All}

-- what holds of all holds of the one of a number
pub numbered-holds : {X : Type 0} (P : X → Type 0) (xs : List X) (n : ℕ) (x : X) → All P xs → numbered xs n ≡ Some x → P x
numbered-holds P [] n x all e = cc
numbered-holds P (y ∷ older) n x all e = tested (n == length (y ∷ older)) e (numbered-holds P older n x (All-tail P y older all))
  where
    tested : (same : Bool) → (if same then Some y else numbered older n) ≡ Some x → (numbered older n ≡ Some x → P x) → P x
    tested true found rest = let is : y ≡ x = cc in subst P is (All-head P y older all)
    tested false found rest = rest found

-- one that has a number has it still when there is one more
pub numbered-within : {X : Type 0} (xs : List X) (n : ℕ) (x : X) → numbered xs n ≡ Some x → n ≤ length xs
numbered-within [] n x e = cc
numbered-within (y ∷ older) n x e = tested (n == length (y ∷ older)) refl e (numbered-within older n x)
  where
    tested : (same : Bool) → (n == length (y ∷ older)) ≡ same → (if same then Some y else numbered older n) ≡ Some x → (numbered older n ≡ Some x → n ≤ length older) → n ≤ length (y ∷ older)
    tested true is found within = grind (arith, nat_tests)
    tested false is found within = let low = within found in omega (arith, low)

pub numbered-more : {X : Type 0} (y : X) (xs : List X) (n : ℕ) (x : X) → numbered xs n ≡ Some x → numbered (y ∷ xs) n ≡ Some x
numbered-more y xs n x e =
    let low = numbered-within xs n x e in
    let differs : (n == length (y ∷ xs)) ≡ false = grind (arith, nat_tests, low) in
    rw differs e

-- none has a greater number than there are
pub numbered-none : {X : Type 0} (xs : List X) (n : ℕ) → length xs < n → numbered xs n ≡ None
numbered-none [] n lt = refl
numbered-none (x ∷ xs) n lt =
    let differs : (n == length (x ∷ xs)) ≡ false = grind (arith, nat_tests, lt) in
    rw differs (numbered-none xs n (omega (arith, lt)))

-- of what each is made of
pub numbered-map : {X Y : Type 0} (f : X → Y) (xs : List X) (n : ℕ) → numbered (map f xs) n ≡ option_map f (numbered xs n)
numbered-map f [] n = refl
numbered-map f (x ∷ xs) n = ap (λ k. if n == suc k then Some (f x) else numbered (map f xs) n) (length-map xs f) ∙ tested (n == length (x ∷ xs)) (numbered-map f xs n)
  where
    tested : (same : Bool) → numbered (map f xs) n ≡ option_map f (numbered xs n) → (if same then Some (f x) else numbered (map f xs) n) ≡ option_map f (if same then Some x else numbered xs n)
    tested true e = refl
    tested false e = e
