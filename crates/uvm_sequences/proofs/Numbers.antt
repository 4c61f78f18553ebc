-- The one of a number, in a list with the newest first.
use Rattle.uvm_sequences.proofs.Common.{◌≡◌, ◌≤◌, ℕ, zero, suc, Bool, true, false, List, [], ◌∷◌, ◌++◌, length, reverse, map, Option, Some, None, IsSome, refl, sym, ap, ◌∙◌, arith, if◌then◌else◌, ◌==◌, nat_tests, slice_get, option_and_then, option_map, slice_get-map, reverse-append, length-reverse, reverse-reverse, numbered, place_in}
use Prim.Native.Nat.compare

other_suc : (k : ℕ) → (suc k == 0) ≡ false
other_suc k = grind (arith, nat_tests)

other_zero : (k : ℕ) → (0 == suc k) ≡ false
other_zero k = grind (arith, nat_tests)

pub same_suc : (k m : ℕ) → (suc k == suc m) ≡ (k == m)
same_suc k m = rw compare.suc-suc refl

slice_get-push : {X : Type 0} (ws : List X) (x : X) (k : ℕ) → slice_get (ws ++ x ∷ []) k ≡ (if k == length ws then Some x else slice_get ws k)
slice_get-push [] x zero = refl
slice_get-push [] x (suc k) = rw (other_suc k) refl
slice_get-push (w ∷ ws) x zero = rw (other_zero (length ws)) refl
slice_get-push (w ∷ ws) x (suc k) = rw (same_suc k (length ws)) (slice_get-push ws x k)

-- the oldest has number 1
numbered-back : {X : Type 0} (xs : List X) (k : ℕ) → slice_get (reverse xs) k ≡ numbered xs (suc k)
numbered-back [] k = refl
numbered-back (x ∷ older) k =
    ap (λ l. slice_get l k) (reverse-append (x ∷ []) older)
    ∙ slice_get-push (reverse older) x k
    ∙ ap (λ n. if k == n then Some x else slice_get (reverse older) k) (length-reverse older)
    ∙ ap (λ found. if k == length older then Some x else found) (numbered-back older k)
    ∙ sym (ap (λ b. if b then Some x else numbered older (suc k)) (same_suc k (length older)))

no_zero : {X : Type 0} (xs : List X) → numbered xs 0 ≡ None
no_zero [] = refl
no_zero (x ∷ older) = rw (other_zero (length older)) (no_zero older)

pub numbered-reverse : {X : Type 0} (xs : List X) (n : ℕ) → numbered (reverse xs) n ≡ option_and_then (slice_get xs) (place_in n)
numbered-reverse xs zero = no_zero (reverse xs)
numbered-reverse xs (suc k) = sym (numbered-back (reverse xs) k) ∙ ap (λ l. slice_get l k) (reverse-reverse xs)

-- what has a number is in the list
within-more : {X : Type 0} (x : X) (older : List X) (n : ℕ) → (IsSome (numbered older n) → n ≤ length older) → (b : Bool) → (n == length (x ∷ older)) ≡ b → IsSome (if b then Some x else numbered older n) → n ≤ length (x ∷ older)
within-more x older n rest true e some = grind (arith, nat_tests)
within-more x older n rest false e some = let h = rest some in omega arith

pub numbered-within : {X : Type 0} (xs : List X) (n : ℕ) → IsSome (numbered xs n) → n ≤ length xs
numbered-within [] n some = cc
numbered-within (x ∷ older) n some = within-more x older n (numbered-within older n) (n == length (x ∷ older)) refl some

-- the same of what is told of each
by_place : {X Y : Type 0} (f : X → Y) (xs : List X) (place : Option ℕ) → option_and_then (slice_get (map f xs)) place ≡ option_map f (option_and_then (slice_get xs) place)
by_place f xs None = refl
by_place f xs (Some k) = slice_get-map f xs k

pub numbered-kept : {X Y : Type 0} (f : X → Y) (xs : List X) (n : ℕ) → option_map f (option_and_then (slice_get xs) (place_in n)) ≡ numbered (reverse (map f xs)) n
numbered-kept f xs n = sym (numbered-reverse (map f xs) n ∙ by_place f xs (place_in n))

-- a place is that of the number after it
pub place-number : (n at : ℕ) → place_in n ≡ Some at → n ≡ suc at
place-number zero at is = absurd cc
place-number (suc n) at is = cc
