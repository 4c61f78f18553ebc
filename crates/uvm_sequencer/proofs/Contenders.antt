-- The contenders as one filter of the queue, and that one is chosen.
use Rattle.uvm_sequencer.proofs.Common.{◌≡◌, ◌≤◌, ◌<◌, ◌+◌, ◌%◌, ℕ, zero, suc, Bool, true, false, not, max, List, [], ◌∷◌, length, drop, filter, sum_by, Option, Some, None, IfSome, IsSome, is_some, refl, sym, ap, ◌∙◌, arith, subst, if◌then◌else◌, nat_lt, nat_le, ◌==◌, ◌||◌, ◌&&◌, nat_tests, list_all, list_any, slice_get, option_and_then, sum_by-cons, mod-lt, Start, Mode, Fifo, Weighted, Random, StrictFifo, StrictRandom, How, Request, is_item, is_candidate, is_blocked, candidates, priority_of, is_strict, is_random, is_greatest, contenders, is_drawn, first_over, drawn, choice, readiness, is_contending, contending, highest, bar_of, has_priority}

and_left : (a b : Bool) → (a && b) ≡ true → a ≡ true
and_left true b e = refl
and_left false b e = e

and_right : (a b : Bool) → (a && b) ≡ true → b ≡ true
and_right true b e = e
and_right false b e = absurd cc

-- a filter by two tests is one after the other
twice_by : (p q : Request → Bool) (x : Request) (xs : List Request) (a b : Bool) → p x ≡ a → q x ≡ b → filter (λ r. p r && q r) xs ≡ filter q (filter p xs) → filter (λ r. p r && q r) (x ∷ xs) ≡ filter q (filter p (x ∷ xs))
twice_by p q x xs true true e f rest = simp (e, f) (ap (λ l. x ∷ l) rest)
twice_by p q x xs true false e f rest = simp (e, f) rest
twice_by p q x xs false b e f rest = simp (e, f) rest

twice : (p q : Request → Bool) (xs : List Request) → filter (λ r. p r && q r) xs ≡ filter q (filter p xs)
twice p q [] = refl
twice p q (x ∷ xs) = twice_by p q x xs (p x) (q x) refl refl (twice p q xs)

max_le : (a b x : ℕ) → (nat_le a x && nat_le b x) ≡ nat_le (max a b) x
max_le a b x = grind (arith, nat_tests)

zero_le : (x : ℕ) → nat_le 0 x ≡ true
zero_le x = grind (arith, nat_tests)

greatest_bar : (requests : List Request) (request : Request) → is_greatest requests request ≡ nat_le (highest requests) (priority_of request)
greatest_bar [] request = sym (zero_le (priority_of request))
greatest_bar (r ∷ rs) request = ap (λ b. nat_le (priority_of r) (priority_of request) && b) (greatest_bar rs request) ∙ max_le (priority_of r) (highest rs) (priority_of request)

all_pass : (requests : List Request) → requests ≡ filter (λ r. nat_le 0 (priority_of r)) requests
all_pass [] = refl
all_pass (r ∷ rs) = simp (zero_le (priority_of r)) (ap (λ l. r ∷ l) (all_pass rs))

-- those of greatest priority
abbrev greatest : List Request → List Request
greatest requests = filter (is_greatest requests) requests

by_mode : (strict : Bool) (requests : List Request) → (if strict then greatest requests else requests) ≡ filter (λ r. nat_le (if strict then highest requests else 0) (priority_of r)) requests
by_mode true requests = λ i. filter (λ r. greatest_bar requests r i) requests
by_mode false requests = all_pass requests

pub contenders-contending : (mode : Mode) (started : List Start) (holders : List ℕ) (queue : List Request) → contenders mode (candidates started holders queue) ≡ contending started holders (bar_of mode (candidates started holders queue)) queue
contenders-contending mode started holders queue =
    by_mode (is_strict mode) (candidates started holders queue)
    ∙ sym (twice (is_candidate started holders) (λ r. nat_le (bar_of mode (candidates started holders queue)) (priority_of r)) queue)

-- each of greatest priority is there
attained_by : (bar : ℕ) (r : Request) (rs : List Request) (b : Bool) → nat_le bar (priority_of r) ≡ b → bar ≤ max (priority_of r) (highest rs)
    → (bar ≤ highest rs → 0 < length rs → 0 < length (filter (λ x. nat_le bar (priority_of x)) rs))
    → 0 < length (filter (λ x. nat_le bar (priority_of x)) (r ∷ rs))
attained_by bar r rs true e low rest = rw e (omega arith)
attained_by bar r rs false e low rest = rw e (later bar (priority_of r) rs e low rest)
  where
    empty_low : (rs : List Request) → 0 < highest rs → 0 < length rs
    empty_low [] h = absurd (omega arith)
    empty_low (x ∷ xs) h = omega arith

    later : (bar p : ℕ) (rs : List Request) → nat_le bar p ≡ false → bar ≤ max p (highest rs)
        → (bar ≤ highest rs → 0 < length rs → 0 < length (filter (λ x. nat_le bar (priority_of x)) rs))
        → 0 < length (filter (λ x. nat_le bar (priority_of x)) rs)
    later bar p rs e low rest =
        let over : p < bar = grind (arith, nat_tests) in
        let more : bar ≤ highest rs = omega arith in
        rest more (empty_low rs (omega arith))

attained : (bar : ℕ) (requests : List Request) → bar ≤ highest requests → 0 < length requests → 0 < length (filter (λ x. nat_le bar (priority_of x)) requests)
attained bar [] low some = absurd (omega arith)
attained bar (r ∷ rs) low some = attained_by bar r rs (nat_le bar (priority_of r)) refl low (λ h k. attained bar rs h k)

some_by : (strict : Bool) (requests : List Request) → 0 < length requests → 0 < length (if strict then greatest requests else requests)
some_by true requests some = rw (by_mode true requests) (attained (highest requests) requests (omega arith) some)
some_by false requests some = some

pub some-contenders : (mode : Mode) (requests : List Request) → 0 < length requests → 0 < length (contenders mode requests)
some-contenders mode requests some = some_by (is_strict mode) requests some

-- what is within a list is there
pub there : {X : Type 0} (xs : List X) (n : ℕ) → n < length xs → IsSome (slice_get xs n)
there [] n within = absurd (omega arith)
there (x ∷ xs) zero within = refl
there (x ∷ xs) (suc n) within = there xs n (omega arith)

over_by : (sum n : ℕ) (r : Request) (rs : List Request) (b : Bool) → nat_lt n (sum + priority_of r) ≡ b → n < sum + (priority_of r + sum_by priority_of rs) → sum ≤ n
    → (n < (sum + priority_of r) + sum_by priority_of rs → sum + priority_of r ≤ n → IsSome (first_over (sum + priority_of r) n rs))
    → IsSome (first_over sum n (r ∷ rs))
over_by sum n r rs true e within low rest = rw e refl
over_by sum n r rs false e within low rest =
    let past : sum + priority_of r ≤ n = grind (arith, nat_tests) in
    rw e (rest (omega arith) past)

over : (sum n : ℕ) (requests : List Request) → n < sum + sum_by priority_of requests → sum ≤ n → IsSome (first_over sum n requests)
over sum n [] within low = absurd (omega arith)
over sum n (r ∷ rs) within low =
    let parts = sum_by-cons priority_of r rs in
    over_by sum n r rs (nat_lt n (sum + priority_of r)) refl (omega (arith, parts)) low (λ h k. over (sum + priority_of r) n rs h k)

-- the priorities of contenders add up to more than 0
positive_of : (item free high : Bool) (p : ℕ) → ((item && free) && high) ≡ true → (not item || nat_lt 0 p) ≡ true → 0 < p
positive_of true free high p is has = grind (arith, nat_tests)
positive_of false free high p is has = absurd cc

module _ (started : List Start) (holders : List ℕ) (bar : ℕ) where
  positive_by : (r : Request) (rs : List Request) (b : Bool) → is_contending started holders bar r ≡ b → has_priority r ≡ true
      → (0 < length (contending started holders bar rs) → 0 < sum_by priority_of (contending started holders bar rs))
      → 0 < length (contending started holders bar (r ∷ rs)) → 0 < sum_by priority_of (contending started holders bar (r ∷ rs))
  positive_by r rs true e has rest some =
      let p : 0 < priority_of r = positive_of (is_item r) (not (is_blocked started holders r.seq)) (nat_le bar (priority_of r)) (priority_of r) e has in
      let parts = sum_by-cons priority_of r (contending started holders bar rs) in
      rw e (omega (arith, parts))
  positive_by r rs false e has rest some = rw e (rest (rw e at some))

  pub sum-positive : (queue : List Request) → list_all has_priority queue ≡ true → 0 < length (contending started holders bar queue) → 0 < sum_by priority_of (contending started holders bar queue)
  sum-positive [] all some = absurd (omega arith)
  sum-positive (r ∷ rs) all some =
      positive_by r rs (is_contending started holders bar r) refl (and_left (has_priority r) (list_all has_priority rs) all) (λ h. sum-positive rs (and_right (has_priority r) (list_all has_priority rs) all) h) some

module _ (mode : Mode) (started : List Start) (holders : List ℕ) (queue : List Request) where
  abbrev those : List Request
  those = candidates started holders queue

  -- the contenders, by the bar that was found
  pub at-bar : (bar : ℕ) → bar ≡ bar_of mode those → contending started holders bar queue ≡ contenders mode those
  at-bar bar is = ap (λ b. contending started holders b queue) is ∙ sym (contenders-contending mode started holders queue)

  pub sum-contenders : list_all has_priority queue ≡ true → 0 < length (contenders mode those) → 0 < sum_by priority_of (contenders mode those)
  sum-contenders all some =
      let P : List Request → Type 0 = λ l. 0 < length l in
      let Q : List Request → Type 0 = λ l. 0 < sum_by priority_of l in
      subst Q (sym (contenders-contending mode started holders queue))
      (sum-positive started holders (bar_of mode those) queue all (subst P (contenders-contending mode started holders queue) some))

-- a word decides on one of them
pub drawn-some : (mode : Mode) (requests : List Request) (word : ℕ) → 0 < length requests → 0 < sum_by priority_of requests → IsSome (drawn mode requests word)
drawn-some Weighted requests word some sum = over 0 (word % sum_by priority_of requests) requests (let h = mod-lt word sum in omega arith) (omega arith)
drawn-some Fifo requests word some sum = there requests (word % length requests) (mod-lt word some)
drawn-some Random requests word some sum = there requests (word % length requests) (mod-lt word some)
drawn-some StrictFifo requests word some sum = there requests (word % length requests) (mod-lt word some)
drawn-some StrictRandom requests word some sum = there requests (word % length requests) (mod-lt word some)

pub by-place : (mode : Mode) (requests : List Request) (word : ℕ) → (mode ≡ Weighted → ⊥) → drawn mode requests word ≡ slice_get requests (word % length requests)
by-place Weighted requests word not = absurd (not refl)
by-place Fifo requests word not = refl
by-place Random requests word not = refl
by-place StrictFifo requests word not = refl
by-place StrictRandom requests word not = refl

-- where the driver waits with a candidate, one is chosen
ready-some : (mode : Mode) (wait : Option How) (requests : List Request) (drawn : Bool) → readiness mode wait requests ≡ Some drawn → 0 < length requests
ready-some mode None requests drawn is = absurd cc
ready-some mode (Some how) [] drawn is = absurd cc
ready-some mode (Some how) (r ∷ rs) drawn is = omega arith

pub word-some : (mode : Mode) (wait : Option How) (requests : List Request) (word : Option ℕ) → readiness mode wait requests ≡ Some (is_some word) → 0 < length (contenders mode requests)
word-some mode wait requests word ready = some-contenders mode requests (ready-some mode wait requests (is_some word) ready)

choice_by : (mode : Mode) (requests : List Request) (word : Option ℕ) → 0 < length (contenders mode requests) → 0 < sum_by priority_of (contenders mode requests) → IsSome (choice mode requests word)
choice_by mode requests None some sum = there (contenders mode requests) 0 some
choice_by mode requests (Some word) some sum = drawn-some mode (contenders mode requests) word some sum

pub choice-some : (mode : Mode) (wait : Option How) (started : List Start) (holders : List ℕ) (queue : List Request) (word : Option ℕ) → list_all has_priority queue ≡ true
    → readiness mode wait (candidates started holders queue) ≡ Some (is_some word) → IsSome (choice mode (candidates started holders queue) word)
choice-some mode wait started holders queue word all ready =
    let some = word-some mode wait (candidates started holders queue) word ready in
    choice_by mode (candidates started holders queue) word some (sum-contenders mode started holders queue all some)

pub readiness-is : (mode : Mode) (wait : Option How) (requests : List Request) → is_some wait ≡ true → 0 < length requests → readiness mode wait requests ≡ Some (is_drawn mode requests)
readiness-is mode None requests waits some = absurd cc
readiness-is mode (Some how) [] waits some = absurd (omega arith)
readiness-is mode (Some how) (r ∷ rs) waits some = refl

second_some : (found : List Request) → is_some (slice_get found 1) ≡ nat_lt 1 (length found)
second_some [] = refl
second_some (r ∷ []) = refl
second_some (r ∷ s ∷ rs) = sym (more (length rs))
  where
    more : (n : ℕ) → nat_lt 1 (suc (suc n)) ≡ true
    more n = grind (arith, nat_tests)

-- a second contender is there where a word decides
pub is-drawn : (mode : Mode) (started : List Start) (holders : List ℕ) (queue : List Request) (bar : ℕ) → bar ≡ bar_of mode (candidates started holders queue) → is_random mode ≡ true
    → is_some (slice_get (contending started holders bar queue) 1) ≡ is_drawn mode (candidates started holders queue)
is-drawn mode started holders queue bar bar_is random =
    second_some (contending started holders bar queue)
    ∙ ap (λ l. nat_lt 1 (length l)) (at-bar mode started holders queue bar bar_is)
    ∙ ap (λ b. b && nat_lt 1 (length (contenders mode (candidates started holders queue)))) (sym random)

-- a place is found where what stands there is
pub placed : {X : Type 0} (xs : List X) (found : Option ℕ) → IfSome found (λ place. place < length xs) → is_some found ≡ is_some (option_and_then (slice_get xs) found)
placed xs None within = refl
placed xs (Some place) within = sym (there xs place within)

pub not-none : {X : Type 0} (xs : List X) (place : Option ℕ) (found : Option X) → option_and_then (slice_get xs) place ≡ found → IsSome found → place ≡ None → ⊥
not-none xs None found is some none = absurd (let same : None ≡ found = is in cc)
not-none xs (Some place) found is some none = cc

-- where nobody holds the sequencer and no lock waits, each request is a contender in the modes that do not look at priorities
all-candidates : (started : List Start) (queue : List Request) → list_all is_item queue ≡ true → candidates started [] queue ≡ queue
all-candidates started [] all = refl
all-candidates started (r ∷ rs) all =
    let item = and_left (is_item r) (list_all is_item rs) all in
    simp item (ap (λ l. r ∷ l) (all-candidates started rs (and_right (is_item r) (list_all is_item rs) all)))

all_by : (strict : Bool) (started : List Start) (holders : List ℕ) (queue : List Request) → (not strict && ((length holders == 0) && list_all is_item queue)) ≡ true
    → (if strict then greatest (candidates started holders queue) else candidates started holders queue) ≡ queue
all_by true started holders queue all = absurd cc
all_by false started [] queue all = all-candidates started queue (and_right (length {A = ℕ} [] == 0) (list_all is_item queue) all)
all_by false started (h ∷ hs) queue all = absurd (let size : suc (length hs) ≡ 0 = none (length (h ∷ hs)) (and_left (length (h ∷ hs) == 0) (list_all is_item queue) all) in omega (arith, size))
  where
    none : (n : ℕ) → (n == 0) ≡ true → n ≡ 0
    none n e = grind (arith, nat_tests)

pub all-contenders : (mode : Mode) (started : List Start) (holders : List ℕ) (queue : List Request) → (not (is_strict mode) && ((length holders == 0) && list_all is_item queue)) ≡ true
    → contenders mode (candidates started holders queue) ≡ queue
all-contenders mode started holders queue all = all_by (is_strict mode) started holders queue all

-- a contender at a place is the first behind those that stand before it
pub contending-at : (started : List Start) (holders : List ℕ) (bar : ℕ) (queue : List Request) (place : ℕ) (r : Request) → slice_get queue place ≡ Some r → is_contending started holders bar r ≡ true
    → contending started holders bar (drop place queue) ≡ r ∷ contending started holders bar (drop (suc place) queue)
contending-at started holders bar [] place r is passes = absurd cc
contending-at started holders bar (x ∷ xs) zero r is passes =
    let same : x ≡ r = cc in
    let own : is_contending started holders bar x ≡ true = ap (is_contending started holders bar) same ∙ passes in
    simp own (ap (λ y. y ∷ contending started holders bar xs) same)
contending-at started holders bar (x ∷ xs) (suc place) r is passes = contending-at started holders bar xs place r is passes

pub over-at : (sum n : ℕ) (r : Request) (rest : List Request) → n < sum + priority_of r → first_over sum n (r ∷ rest) ≡ Some r
over-at sum n r rest less = ap (λ b. if b then Some r else first_over (sum + priority_of r) n rest) within
  where
    within : nat_lt n (sum + priority_of r) ≡ true
    within = grind (arith, nat_tests)

-- a test passes somewhere where something is left of the list by it
any_by : (p : Request → Bool) (r : Request) (rs : List Request) (b : Bool) → p r ≡ b → list_any p rs ≡ nat_lt 0 (length (filter p rs)) → list_any p (r ∷ rs) ≡ nat_lt 0 (length (filter p (r ∷ rs)))
any_by p r rs true e rest = simp e (sym (grind (arith, nat_tests)))
any_by p r rs false e rest = simp e rest

pub any-some : (p : Request → Bool) (requests : List Request) → list_any p requests ≡ nat_lt 0 (length (filter p requests))
any-some p [] = refl
any-some p (r ∷ rs) = any_by p r rs (p r) refl (any-some p rs)
