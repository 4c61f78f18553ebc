-- What is left of a queue.
use Rattle.uvm_sequencer.proofs.Common.{◌≡◌, ◌≤◌, ◌<◌, ◌+◌, ℕ, Bool, true, false, not, List, [], ◌∷◌, ◌++◌, length, filter, Some, None, refl, arith, ◌==◌, ◌||◌, nat_tests, list_any, list_all, Start, Request, is_item, is_lock_of, is_blocked, leading_lock, locks, length-append}

-- what each passes, each that is left passes
all_by : {X : Type 0} (p q : X → Bool) (x : X) (xs : List X) (a b : Bool) → p x ≡ a → q x ≡ b
    → (list_all p xs ≡ true → list_all p (filter q xs) ≡ true)
    → list_all p (x ∷ xs) ≡ true → list_all p (filter q (x ∷ xs)) ≡ true
all_by p q x xs true true e f rest all = simp (e, f) (rest (simp e at all))
all_by p q x xs true false e f rest all = simp f (rest (simp e at all))
all_by p q x xs false b e f rest all = let no : false ≡ true = simp e at all in cc

pub all-filter : {X : Type 0} (p q : X → Bool) (xs : List X) → list_all p xs ≡ true → list_all p (filter q xs) ≡ true
all-filter p q [] all = refl
all-filter p q (x ∷ xs) all = all_by p q x xs (p x) (q x) refl refl (λ h. all-filter p q xs h) all

-- no more locks are left
few_by : (keep : Request → Bool) (request : Request) (queue : List Request) (lock kept : Bool) → not (is_item request) ≡ lock → keep request ≡ kept
    → length (locks (filter keep queue)) ≤ length (locks queue)
    → length (locks (filter keep (request ∷ queue))) ≤ length (locks (request ∷ queue))
few_by keep request queue true true e f rest = simp (e, f) (omega arith)
few_by keep request queue true false e f rest = simp (e, f) (omega arith)
few_by keep request queue false true e f rest = simp (e, f) rest
few_by keep request queue false false e f rest = simp (e, f) rest

pub few-locks : (keep : Request → Bool) (queue : List Request) → length (locks (filter keep queue)) ≤ length (locks queue)
few-locks keep [] = omega arith
few-locks keep (request ∷ queue) = few_by keep request queue (not (is_item request)) (keep request) refl refl (few-locks keep queue)

or_right : (a : Bool) {b : Bool} → b ≡ true → (a || b) ≡ true
or_right true e = refl
or_right false e = e

same : (m n : ℕ) → m ≡ n → (m == n) ≡ true
same m n e = grind (arith, nat_tests)

-- the lock that leads waits in the queue
waits_by : (started : List Start) (holders : List ℕ) (seq : ℕ) (request : Request) (queue : List Request) (blocked item : Bool)
    → is_blocked started holders request.seq ≡ blocked → is_item request ≡ item
    → (leading_lock started holders queue ≡ Some seq → list_any (is_lock_of seq) queue ≡ true)
    → leading_lock started holders (request ∷ queue) ≡ Some seq → list_any (is_lock_of seq) (request ∷ queue) ≡ true
waits_by started holders seq request queue true item e f rest is = or_right (is_lock_of seq request) (rest (simp e at is))
waits_by started holders seq request queue false true e f rest is = let no : None ≡ Some seq = simp (e, f) at is in absurd cc
waits_by started holders seq request queue false false e f rest is =
    let told : Some request.seq ≡ Some seq = simp (e, f) at is in
    let own : (request.seq == seq) ≡ true = same request.seq seq cc in
    simp (own, f)

pub leading-waits : (started : List Start) (holders : List ℕ) (seq : ℕ) (queue : List Request) → leading_lock started holders queue ≡ Some seq → list_any (is_lock_of seq) queue ≡ true
leading-waits started holders seq [] is = absurd cc
leading-waits started holders seq (request ∷ queue) is = waits_by started holders seq request queue (is_blocked started holders request.seq) (is_item request) refl refl (λ h. leading-waits started holders seq queue h) is

-- where a lock of a sequence waits, fewer are left without it
fewer_by : (seq : ℕ) (request : Request) (queue : List Request) (own item : Bool) → (request.seq == seq) ≡ own → is_item request ≡ item
    → (list_any (is_lock_of seq) queue ≡ true → length (locks (filter (λ r. not (is_lock_of seq r)) queue)) < length (locks queue))
    → list_any (is_lock_of seq) (request ∷ queue) ≡ true
    → length (locks (filter (λ r. not (is_lock_of seq r)) (request ∷ queue))) < length (locks (request ∷ queue))
fewer_by seq request queue true true e f rest is = simp (e, f) (rest (simp (e, f) at is))
fewer_by seq request queue true false e f rest is = let few = few-locks (λ r. not (is_lock_of seq r)) queue in simp (e, f) (omega arith)
fewer_by seq request queue false true e f rest is = simp (e, f) (rest (simp (e, f) at is))
fewer_by seq request queue false false e f rest is = let less = rest (simp (e, f) at is) in simp (e, f) (omega arith)

pub fewer-locks : (seq : ℕ) (queue : List Request) → list_any (is_lock_of seq) queue ≡ true → length (locks (filter (λ r. not (is_lock_of seq r)) queue)) < length (locks queue)
fewer-locks seq [] is = absurd cc
fewer-locks seq (request ∷ queue) is = fewer_by seq request queue (request.seq == seq) (is_item request) refl refl (λ h. fewer-locks seq queue h) is

shorter_by : {X : Type 0} (test : X → Bool) (x : X) (xs : List X) (b : Bool) → test x ≡ b → length (filter test xs) ≤ length xs → length (filter test (x ∷ xs)) ≤ length (x ∷ xs)
shorter_by test x xs true e rest = rw e (omega arith)
shorter_by test x xs false e rest = rw e (omega arith)

shorter : {X : Type 0} (test : X → Bool) (xs : List X) → length (filter test xs) ≤ length xs
shorter test [] = omega arith
shorter test (x ∷ xs) = shorter_by test x xs (test x) refl (shorter test xs)

-- each lock waits in the queue
pub locks_few : (queue : List Request) → length (locks queue) ≤ length queue
locks_few queue = shorter (λ request. not (is_item request)) queue

-- room for each that waits and for one more is room for the locks
pub room-asked : (queue : List Request) (request : Request) (spare : ℕ) → length queue + 1 ≤ spare → length (locks (queue ++ request ∷ [])) ≤ spare
room-asked queue request spare room = let few = locks_few (queue ++ request ∷ []) in let size = length-append queue (request ∷ []) in omega arith

pub room-first : (queue : List Request) (request : Request) (spare : ℕ) → length queue + 1 ≤ spare → length (locks (request ∷ queue)) ≤ spare
room-first queue request spare room = let few = locks_few (request ∷ queue) in omega arith

-- what is left of what waits has room
pub left-room : (keep : Request → Bool) (queue : List Request) (spare after : ℕ) → length (locks queue) ≤ spare → spare ≤ after → length (locks (filter keep queue)) ≤ after
left-room keep queue spare after room more = let few = few-locks keep queue in omega arith

-- where a lock leads there is room for it, and after it is granted there is room for the others
module _ (started : List Start) (holders : List ℕ) (queue : List Request) (seq : ℕ) (led : leading_lock started holders queue ≡ Some seq) where
  fewer : length (locks (filter (λ r. not (is_lock_of seq r)) queue)) < length (locks queue)
  fewer = fewer-locks seq queue (leading-waits started holders seq queue led)

  pub room-to-grant : (spare : ℕ) → length (locks queue) ≤ spare → 0 < spare
  room-to-grant spare room = omega (arith, fewer)

  pub room-granted : (spare after : ℕ) → length (locks queue) ≤ spare → spare ≤ after + 1 → length (locks (filter (λ r. not (is_lock_of seq r)) queue)) ≤ after
  room-granted spare after room more = omega (arith, fewer)
