-- A sequence waits for one item and one lock at most.
use Rattle.uvm_sequencer.proofs.Common.{◌≡◌, ◌≤◌, ◌<◌, ◌+◌, ℕ, Bool, true, false, not, List, [], ◌∷◌, ◌++◌, length, filter, None, is_some, refl, ap, subst, ◌∙◌, arith, length-append, if◌then◌else◌, ◌==◌, ◌||◌, ◌&&◌, nat_tests, filter-append, list_any, fault_if, Request, Twice, grant_of, AreSingle, is_item_of, is_lock_of, is_of, item_request, lock_request, is_live_at, WaitsStaySingle}

-- no more pass a test of what is left
few_more : (p q : Request → Bool) (x : Request) (xs : List Request) (a b : Bool) → q x ≡ a → p x ≡ b → length (filter p (filter q xs)) ≤ length (filter p xs)
    → length (filter p (filter q (x ∷ xs))) ≤ length (filter p (x ∷ xs))
few_more p q x xs true true e f rest = simp (e, f) (omega arith)
few_more p q x xs true false e f rest = simp (e, f) rest
few_more p q x xs false true e f rest = simp (e, f) (omega arith)
few_more p q x xs false false e f rest = simp (e, f) rest

few : (p q : Request → Bool) (xs : List Request) → length (filter p (filter q xs)) ≤ length (filter p xs)
few p q [] = omega arith
few p q (x ∷ xs) = few_more p q x xs (q x) (p x) refl refl (few p q xs)

pub single-left : (keep : Request → Bool) (queue : List Request) → AreSingle queue → AreSingle (filter keep queue)
single-left keep queue single seq =
    let items = few (is_item_of seq) keep queue in
    let locks = few (is_lock_of seq) keep queue in
    let one = single seq in
    (omega (arith, items, one.0), omega (arith, locks, one.1))

-- where nothing passes a test nothing is left by it
none_by : (p : Request → Bool) (x : Request) (xs : List Request) (b : Bool) → p x ≡ b → (list_any p xs ≡ false → length (filter p xs) ≡ 0) → (b || list_any p xs) ≡ false → length (filter p (x ∷ xs)) ≡ 0
none_by p x xs true e rest is = absurd cc
none_by p x xs false e rest is = rw e (rest is)

none : (p : Request → Bool) (xs : List Request) → list_any p xs ≡ false → length (filter p xs) ≡ 0
none p [] is = refl
none p (x ∷ xs) is = none_by p x xs (p x) refl (none p xs) is

-- one more, of which no other is there
added_by : (p : Request → Bool) (x : Request) (xs : List Request) (b : Bool) → p x ≡ b → (b ≡ true → length (filter p xs) ≡ 0) → length (filter p xs) ≤ 1 → length (filter p (x ∷ xs)) ≤ 1
added_by p x xs true e fresh one = let zero_left = fresh refl in rw e (omega arith)
added_by p x xs false e fresh one = rw e one

added : (p : Request → Bool) (x : Request) (xs : List Request) → (p x ≡ true → length (filter p xs) ≡ 0) → length (filter p xs) ≤ 1 → length (filter p (x ∷ xs)) ≤ 1
added p x xs fresh one = added_by p x xs (p x) refl fresh one

-- at the end as at the front
size-last : (p : Request → Bool) (x : Request) (xs : List Request) → length (filter p (xs ++ x ∷ [])) ≡ length (filter p (x ∷ xs))
size-last p x xs = ap length (filter-append p xs (x ∷ [])) ∙ length-append (filter p xs) (filter p (x ∷ [])) ∙ both (p x) refl
  where
    both : (b : Bool) → p x ≡ b → length (filter p xs) + length (if b then x ∷ [] else []) ≡ length (if b then x ∷ filter p xs else filter p xs)
    both true e = omega arith
    both false e = omega arith

first_false : (a b : Bool) → fault_if (a || b) Twice ≡ None → a ≡ false
first_false true b is = absurd cc
first_false false b is = refl

free_of : (a : Bool) → fault_if a Twice ≡ None → a ≡ false
free_of true is = absurd cc
free_of false is = refl

-- who asks is the one that asked
own_of : (a b : Bool) → (a && b) ≡ true → a ≡ true
own_of true b is = refl
own_of false b is = is

nobody : (a : Bool) → (a && false) ≡ true → ⊥
nobody true is = cc
nobody false is = cc

same_of : (m n : ℕ) → (m == n) ≡ true → m ≡ n
same_of m n e = grind (arith, nat_tests)

single-item : (queue : List Request) (seq priority : ℕ) → list_any (is_item_of seq) queue ≡ false → AreSingle queue → AreSingle (item_request seq priority ∷ queue)
single-item queue seq priority fresh single n =
    let one = single n in (
      added (is_item_of n) (item_request seq priority) queue (λ own. none (is_item_of n) queue (subst (λ m. list_any (is_item_of m) queue ≡ false) (same_of seq n (own_of (seq == n) true own)) fresh)) one.0,
      added (is_lock_of n) (item_request seq priority) queue (λ own. absurd (nobody (seq == n) own)) one.1,
    )

pub single-lock : (queue : List Request) (seq : ℕ) → list_any (is_lock_of seq) queue ≡ false → AreSingle queue → AreSingle (lock_request seq ∷ queue)
single-lock queue seq fresh single n =
    let one = single n in (
      added (is_item_of n) (lock_request seq) queue (λ own. absurd (nobody (seq == n) own)) one.0,
      added (is_lock_of n) (lock_request seq) queue (λ own. none (is_lock_of n) queue (subst (λ m. list_any (is_lock_of m) queue ≡ false) (same_of seq n (own_of (seq == n) true own)) fresh)) one.1,
    )

single-last : (queue : List Request) (x : Request) → AreSingle (x ∷ queue) → AreSingle (queue ++ x ∷ [])
single-last queue x single n =
    let one = single n in
    let items = size-last (is_item_of n) x queue in
    let locks = size-last (is_lock_of n) x queue in
    (omega (arith, items, one.0), omega (arith, locks, one.1))

pub single-none : AreSingle []
single-none seq = (omega arith, omega arith)

pub single-item-last : (queue : List Request) (seq priority : ℕ) → list_any (is_item_of seq) queue ≡ false → AreSingle queue → AreSingle (queue ++ item_request seq priority ∷ [])
single-item-last queue seq priority fresh single = single-last queue (item_request seq priority) (single-item queue seq priority fresh single)

pub single-lock-last : (queue : List Request) (seq : ℕ) → list_any (is_lock_of seq) queue ≡ false → AreSingle queue → AreSingle (queue ++ lock_request seq ∷ [])
single-lock-last queue seq fresh single = single-last queue (lock_request seq) (single-lock queue seq fresh single)

pub waits_stay_single : WaitsStaySingle
waits_stay_single = record {
  begins = λ mode. single-none;
  requests = λ s seq priority single free. single-item-last s.queue seq priority (first_false (list_any (is_item_of seq) s.queue) (is_some (grant_of seq s.driver)) free) single;
  locks = λ s seq single free. single-lock-last s.queue seq (free_of (list_any (is_lock_of seq) s.queue) free) single;
  grabs = λ s seq single free. single-lock s.queue seq (free_of (list_any (is_lock_of seq) s.queue) free) single;
  lock_grants = λ s seq single. single-left (λ request. not (is_lock_of seq request)) s.queue single;
  item_grants = λ s seq single. single-left (λ request. not (is_item_of seq request)) s.queue single;
  leaves = λ s seq single. single-left (λ request. not (is_of seq request)) s.queue single;
  phase_ends = λ s steps ends single. single-left (λ request. is_live_at steps request.seq) s.queue single;
}

-- what passes a test and what does not are all
parts_by : (p : Request → Bool) (x : Request) (xs : List Request) (b : Bool) → p x ≡ b → length (filter (λ r. not (p r)) xs) + length (filter p xs) ≡ length xs
    → length (filter (λ r. not (p r)) (x ∷ xs)) + length (filter p (x ∷ xs)) ≡ length (x ∷ xs)
parts_by p x xs true e rest = simp e (omega arith)
parts_by p x xs false e rest = simp e (omega arith)

parts : (p : Request → Bool) (xs : List Request) → length (filter (λ r. not (p r)) xs) + length (filter p xs) ≡ length xs
parts p [] = refl
parts p (x ∷ xs) = parts_by p x xs (p x) refl (parts p xs)

some_by : (p : Request → Bool) (x : Request) (xs : List Request) (b : Bool) → p x ≡ b → (list_any p xs ≡ true → 0 < length (filter p xs)) → (b || list_any p xs) ≡ true → 0 < length (filter p (x ∷ xs))
some_by p x xs true e rest is = rw e (omega arith)
some_by p x xs false e rest is = rw e (rest is)

some : (p : Request → Bool) (xs : List Request) → list_any p xs ≡ true → 0 < length (filter p xs)
some p [] is = absurd cc
some p (x ∷ xs) is = some_by p x xs (p x) refl (some p xs) is

-- where one passes at most, and one does, one fewer is left without it
pub one-fewer : (p : Request → Bool) (xs : List Request) → list_any p xs ≡ true → length (filter p xs) ≤ 1 → length (filter (λ r. not (p r)) xs) + 1 ≡ length xs
one-fewer p xs is one = let all = parts p xs in let there = some p xs is in omega (arith, all, there)
