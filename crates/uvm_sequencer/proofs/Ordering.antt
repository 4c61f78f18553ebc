-- Who is granted first, and how weighted draws fall.
use Rattle.uvm_sequencer.proofs.Common.{◌≡◌, ◌≤◌, ◌<◌, ◌+◌, ℕ, Bool, true, false, max, List, [], ◌∷◌, ◌++◌, filter, sum_by, Option, Some, None, refl, sym, ap, subst, ◌∙◌, arith, if◌then◌else◌, nat_lt, nat_le, ◌&&◌, All, nat_tests, All-nil, All-cons, All-weaker, filter_passes, sum_by-cons, slice_get, Mode, StrictFifo, Request, Start, is_candidate, priority_of, choice, contenders, first_over, is_strict, bar_of, highest, is_contending, SequencerValue, candidates_at, FifoOrder, IsFirst, StrictPriority, WeightsShareTheDraws, is_as_urgent}
use Rattle.uvm_sequencer.proofs.Contenders.{contenders-contending}
use Rattle.uvm_sequencer.proofs.Granting.{choice-all, contender-all}

-- the first that a filter left
first_by : (test : Request → Bool) (x r : Request) (xs : List Request) (b : Bool) → test x ≡ b → (slice_get (filter test xs) 0 ≡ Some r → IsFirst test xs r)
    → slice_get (if b then x ∷ filter test xs else filter test xs) 0 ≡ Some r → IsFirst test (x ∷ xs) r
first_by test x r xs true e rest is =
    let same : x ≡ r = cc in
    record { before = []; after = xs; splits = ap (λ y. y ∷ xs) same; passes = ap test (sym same) ∙ e; none_before = refl }
first_by test x r xs false e rest is =
    let more = rest is in
    record { before = x ∷ more.before; after = more.after; splits = ap (λ l. x ∷ l) more.splits; passes = more.passes; none_before = rw e more.none_before }

pub first-left : (test : Request → Bool) (xs : List Request) (r : Request) → slice_get (filter test xs) 0 ≡ Some r → IsFirst test xs r
first-left test [] r is = absurd cc
first-left test (x ∷ xs) r is = first_by test x r xs (test x) refl (first-left test xs r) is

pub fifo_order : FifoOrder
fifo_order started s request fifo is = first-left (is_candidate started s.holders) s.queue request (rw fifo at is)

-- the greatest priority
above_all : (requests : List Request) → All (λ r. priority_of r ≤ highest requests) requests
above_all [] = All-nil (λ r. priority_of r ≤ 0)
above_all (x ∷ xs) =
    All-cons (λ r. priority_of r ≤ max (priority_of x) (highest xs)) x xs (omega arith)
    (All-weaker (λ r. priority_of r ≤ highest xs) (λ r. priority_of r ≤ max (priority_of x) (highest xs)) (λ r small. omega arith) xs (above_all xs))

high_of : (candidate high : Bool) → (candidate && high) ≡ true → high ≡ true
high_of true high is = is
high_of false high is = absurd cc

strict-bar : (mode : Mode) (requests : List Request) → is_strict mode ≡ true → bar_of mode requests ≡ highest requests
strict-bar mode requests strict = ap (λ b. if b then highest requests else 0) strict

module _ (started : List Start) (s : SequencerValue) where
  abbrev those : List Request
  those = candidates_at started s

  -- who is chosen has the greatest priority
  chosen-high : (word : Option ℕ) (request : Request) → is_strict s.mode ≡ true → choice s.mode those word ≡ Some request → highest those ≤ priority_of request
  chosen-high word request strict is =
      let passes : All (λ r. is_contending started s.holders (bar_of s.mode those) r ≡ true) (contenders s.mode those) =
      subst (λ l. All (λ r. is_contending started s.holders (bar_of s.mode those) r ≡ true) l) (sym (contenders-contending s.mode started s.holders s.queue)) (filter_passes (is_contending started s.holders (bar_of s.mode those)) s.queue) in
      let pass = contender-all (λ r. is_contending started s.holders (bar_of s.mode those) r ≡ true) s.mode those word request passes is in
      let high = high_of (is_candidate started s.holders request) (nat_le (bar_of s.mode those) (priority_of request)) pass in
      subst (λ bar. bar ≤ priority_of request) (strict-bar s.mode those strict) (le_of (bar_of s.mode those) (priority_of request) high)
    where
      le_of : (m n : ℕ) → nat_le m n ≡ true → m ≤ n
      le_of m n e = grind (arith, nat_tests)

  chosen-low : (word : Option ℕ) (request : Request) → choice s.mode those word ≡ Some request → priority_of request ≤ highest those
  chosen-low word request is = choice-all (λ r. priority_of r ≤ highest those) s.mode those word request (above_all those) is

  chosen-greatest : (word : Option ℕ) (request : Request) → is_strict s.mode ≡ true → choice s.mode those word ≡ Some request → All (λ other. priority_of other ≤ priority_of request) those
  chosen-greatest word request strict is =
      let high = chosen-high word request strict is in
      All-weaker (λ r. priority_of r ≤ highest those) (λ r. priority_of r ≤ priority_of request) (λ r small. omega arith) those (above_all those)

  chosen-first : (request : Request) → s.mode ≡ StrictFifo → choice s.mode those None ≡ Some request → IsFirst (is_as_urgent started s.holders (priority_of request)) s.queue request
  chosen-first request mode is =
      let strict : is_strict s.mode ≡ true = ap is_strict mode in
      let high = chosen-high None request strict is in
      let low = chosen-low None request is in
      let bar : bar_of s.mode those ≡ priority_of request = strict-bar s.mode those strict ∙ omega arith in
      let first : IsFirst (is_as_urgent started s.holders (bar_of s.mode those)) s.queue request =
      first-left (is_as_urgent started s.holders (bar_of s.mode those)) s.queue request (ap (λ l. slice_get l 0) (sym (contenders-contending s.mode started s.holders s.queue)) ∙ is) in
      subst (λ n. IsFirst (is_as_urgent started s.holders n) s.queue request) bar first

pub strict_priority : StrictPriority
strict_priority = record { greatest = chosen-greatest; first = chosen-first }

-- the draws of a request
share_by : (sum n : ℕ) (x r : Request) (xs after : List Request) (b : Bool) → nat_lt n (sum + priority_of x) ≡ b → sum + (priority_of x + sum_by priority_of xs) ≤ n
    → first_over (sum + priority_of x) n (xs ++ r ∷ after) ≡ Some r
    → (if b then Some x else first_over (sum + priority_of x) n (xs ++ r ∷ after)) ≡ Some r
share_by sum n x r xs after true e low rest = let less : n < sum + priority_of x = grind (arith, nat_tests) in absurd (omega arith)
share_by sum n x r xs after false e low rest = rest

share : (sum n : ℕ) (before after : List Request) (r : Request) → sum + sum_by priority_of before ≤ n → n < sum + sum_by priority_of before + priority_of r → first_over sum n (before ++ r ∷ after) ≡ Some r
share sum n [] after r low high = ap (λ b. if b then Some r else first_over (sum + priority_of r) n after) within
  where
    within : nat_lt n (sum + priority_of r) ≡ true
    within = let less : n < sum + priority_of r = omega arith in grind (arith, nat_tests)
share sum n (x ∷ xs) after r low high =
    let parts = sum_by-cons priority_of x xs in
    share_by sum n x r xs after (nat_lt n (sum + priority_of x)) refl (omega (arith, parts)) (share (sum + priority_of x) n xs after r (omega (arith, parts)) (omega (arith, parts)))

pub weights_share_the_draws : WeightsShareTheDraws
weights_share_the_draws before after request n low high = share 0 n before after request (omega arith) (omega arith)
