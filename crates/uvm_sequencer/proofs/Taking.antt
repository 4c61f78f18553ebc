-- What is taken out at a place.
use Rattle.uvm_sequencer.proofs.Common.{◌≡◌, ◌≤◌, ◌<◌, ℕ, zero, suc, Bool, true, false, not, List, [], ◌∷◌, length, filter, Option, Some, None, refl, sym, ap, ◌∙◌, arith, ◌==◌, ◌&&◌, slice_get, slice_index_or, option_and_then, IsSomeAnd, nat_tests, get_or_from_slice_get, Request, is_item, is_lock_of, lock_in, remove}

-- where nothing passes a test all is left without it
all_left_by : (p : Request → Bool) (x : Request) (xs : List Request) (b : Bool) → p x ≡ b → (length (filter p xs) ≡ 0 → xs ≡ filter (λ r. not (p r)) xs) → length (filter p (x ∷ xs)) ≡ 0 → x ∷ xs ≡ filter (λ r. not (p r)) (x ∷ xs)
all_left_by p x xs true e rest none = absurd (let size = simp e at none in omega (arith, size))
all_left_by p x xs false e rest none = simp e (ap (λ l. x ∷ l) (rest (simp e at none)))

all_left : (p : Request → Bool) (xs : List Request) → length (filter p xs) ≡ 0 → xs ≡ filter (λ r. not (p r)) xs
all_left p [] none = refl
all_left p (x ∷ xs) none = all_left_by p x xs (p x) refl (all_left p xs) none

some_by : (p : Request → Bool) (y : Request) (ys : List Request) (b : Bool) → p y ≡ b → 0 < length (filter p ys) → 0 < length (filter p (y ∷ ys))
some_by p y ys true e rest = simp e (omega arith)
some_by p y ys false e rest = simp e rest

some-at : (p : Request → Bool) (xs : List Request) (place : ℕ) (x : Request) → slice_get xs place ≡ Some x → p x ≡ true → 0 < length (filter p xs)
some-at p [] place x is pass = absurd cc
some-at p (y ∷ ys) zero x is pass = let same : y ≡ x = cc in let own : p y ≡ true = ap p same ∙ pass in simp own (omega arith)
some-at p (y ∷ ys) (suc place) x is pass = some_by p y ys (p y) refl (some-at p ys place x is pass)

-- without the one at a place it is without all that pass a test, where that one alone does
removed_by : (p : Request → Bool) (y : Request) (ys : List Request) (place : ℕ) (b : Bool) → p y ≡ b → 0 < length (filter p ys) → length (filter p (y ∷ ys)) ≤ 1
    → (length (filter p ys) ≤ 1 → remove ys place ≡ filter (λ r. not (p r)) ys) → y ∷ remove ys place ≡ filter (λ r. not (p r)) (y ∷ ys)
removed_by p y ys place true e some one rest = absurd (let size = simp e at one in omega (arith, size))
removed_by p y ys place false e some one rest = simp e (ap (λ l. y ∷ l) (rest (simp e at one)))

pub removed-at : (p : Request → Bool) (xs : List Request) (place : ℕ) (x : Request) → slice_get xs place ≡ Some x → p x ≡ true → length (filter p xs) ≤ 1 → remove xs place ≡ filter (λ r. not (p r)) xs
removed-at p [] place x is pass one = absurd cc
removed-at p (y ∷ ys) zero x is pass one =
    let same : y ≡ x = cc in
    let own : p y ≡ true = ap p same ∙ pass in
    let size = simp own at one in
    simp own (all_left p ys (omega (arith, size)))
removed-at p (y ∷ ys) (suc place) x is pass one =
    removed_by p y ys place (p y) refl (some-at p ys place x is pass) one (λ few. removed-at p ys place x is pass few)

-- what was read is what stands there
pub item-at : (xs : List Request) (place : ℕ) (x : Request) → IsSomeAnd (slice_get xs place) (λ r. is_item r ≡ true) → x ≡ slice_index_or xs place x → (slice_get xs place ≡ Some x) × (is_item x ≡ true)
item-at xs place x item is = by (slice_get xs place) refl item
  where
    by : (found : Option Request) → slice_get xs place ≡ found → IsSomeAnd found (λ r. is_item r ≡ true) → (found ≡ Some x) × (is_item x ≡ true)
    by None e item = absurd item
    by (Some r) e item = let same : x ≡ r = is ∙ get_or_from_slice_get xs place r x e in (ap Some (sym same), ap is_item same ∙ item)

own : (m n : ℕ) → m ≡ n → (m == n) ≡ true
own m n e = grind (arith, nat_tests)

lock_by : (seq : ℕ) (r : Request) (item : Bool) → is_item r ≡ item → lock_in r ≡ Some seq → is_lock_of seq r ≡ true
lock_by seq r true e is = absurd (let no : None ≡ Some seq = simp e at is in cc)
lock_by seq r false e is = let told : Some r.seq ≡ Some seq = simp e at is in let same : (r.seq == seq) ≡ true = own r.seq seq cc in simp (same, e)

pub lock-at : (seq : ℕ) (found : Option Request) → option_and_then lock_in found ≡ Some seq → IsSomeAnd found (λ r. is_lock_of seq r ≡ true)
lock-at seq None is = absurd cc
lock-at seq (Some r) is = lock_by seq r (is_item r) refl is

pub removed-lock : (seq : ℕ) (xs : List Request) (place : ℕ) → option_and_then lock_in (slice_get xs place) ≡ Some seq → length (filter (is_lock_of seq) xs) ≤ 1 → remove xs place ≡ filter (λ r. not (is_lock_of seq r)) xs
removed-lock seq xs place is one = by (slice_get xs place) refl (lock-at seq (slice_get xs place) is)
  where
    by : (found : Option Request) → slice_get xs place ≡ found → IsSomeAnd found (λ r. is_lock_of seq r ≡ true) → remove xs place ≡ filter (λ r. not (is_lock_of seq r)) xs
    by None e lock = absurd lock
    by (Some r) e lock = removed-at (is_lock_of seq) xs place r e lock one

-- of requests of one sort, those of a sequence are out, and those of the other sort stay
pub item_out : (own : Bool) {item : Bool} → item ≡ true → not (own && item) ≡ not own
item_out true e = ap not e
item_out false e = refl

pub item_stays : (own : Bool) {item : Bool} → item ≡ true → not (own && not item) ≡ true
item_stays true e = simp e
item_stays false e = refl

pub lock_out : (own item : Bool) → not item ≡ true → not (own && not item) ≡ not own
lock_out true item e = ap not e
lock_out false item e = refl

pub lock_stays : (own item : Bool) → not item ≡ true → not (own && item) ≡ true
lock_stays true item e = e
lock_stays false item e = refl

pub same : (n : ℕ) → (n == n) ≡ true
same n = grind (arith, nat_tests)

pub within-some : {X : Type 0} (xs : List X) (place : ℕ) (P : X → Type 0) → IsSomeAnd (slice_get xs place) P → place < length xs
within-some [] place P is = absurd is
within-some (x ∷ xs) zero P is = omega arith
within-some (x ∷ xs) (suc place) P is = let less = within-some xs place P is in omega (arith, less)
