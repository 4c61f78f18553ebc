-- How many of some calls are whose, and what is left where an owner's are taken out.
use Rattle.uvm_phase.proofs.Common.{◌≡◌, ◌≤◌, ◌<◌, ◌+◌, ℕ, zero, suc, Bool, true, false, not, List, [], ◌∷◌, length, filter, get_or, IsPermutation, OnSome, IsSome, ◌↔◌, Option, Some, None, option_map, unwrap_or, take, if◌then◌else◌, cond, refl, sym, ap, ◌∙◌, arith, false≢true, IsEquivalence, remove, length-filter, sum_by-IsPermutation, IsPermutation-refl, IsPermutation-trans, IsPermutation-cons, IsPermutation-middle, IsPermutation-map, Due, Owned, Owners, insert_due, owners_of, times, counted, count_at, CountsEach, HasAt}
use Rattle.uvm_phase.proofs.Ordered.{IsPermutation-insert_due}

-- two that are the same are so to each other
alike : {O : Type 0} (same : O → O → Bool) → IsEquivalence same → (owner q x : O) → same owner q ≡ true → same x owner ≡ same x q
alike same laws owner q x is = laws.symm x owner ∙ laws.congr owner q x is ∙ laws.symm q x

-- without an owner's it has none
times-none : {O : Type 0} (same : O → O → Bool) → IsEquivalence same → (owner q : O) → same owner q ≡ true → (owners : List O) → times same q (filter (λ other. not (same other owner)) owners) ≡ 0
times-none same laws owner q is [] = refl
times-none {O} same laws owner q is (x ∷ xs) = by (same x owner) refl (times-none same laws owner q is xs)
  where
    by : (b : Bool) → same x owner ≡ b → times same q (filter (λ other. not (same other owner)) xs) ≡ 0 → times same q (if not b then x ∷ filter (λ other. not (same other owner)) xs else filter (λ other. not (same other owner)) xs) ≡ 0
    by true e rest = rest
    by false e rest = rw (sym (alike same laws owner q x is) ∙ e) rest

times-more : {O : Type 0} (same : O → O → Bool) (q x : O) (xs ys : List O) → times same q xs ≡ times same q ys → times same q (x ∷ xs) ≡ times same q (x ∷ ys)
times-more {O} same q x xs ys is = by (same x q)
  where
    by : (b : Bool) → length (if b then x ∷ filter (λ other. same other q) xs else filter (λ other. same other q) xs) ≡ length (if b then x ∷ filter (λ other. same other q) ys else filter (λ other. same other q) ys)
    by true = ap suc is
    by false = is

-- and of each other as many
times-others : {O : Type 0} (same : O → O → Bool) → IsEquivalence same → (owner q : O) → same owner q ≡ false → (owners : List O) → times same q (filter (λ other. not (same other owner)) owners) ≡ times same q owners
times-others same laws owner q isnt [] = refl
times-others {O} same laws owner q isnt (x ∷ xs) = by (same x owner) refl (times-others same laws owner q isnt xs)
  where
    by : (b : Bool) → same x owner ≡ b → times same q (filter (λ other. not (same other owner)) xs) ≡ times same q xs
        → times same q (if not b then x ∷ filter (λ other. not (same other owner)) xs else filter (λ other. not (same other owner)) xs) ≡ times same q (x ∷ xs)
    by true e rest = let other : same x q ≡ false = laws.congr x owner q e ∙ isnt in rw other rest
    by false e rest = times-more same q x (filter (λ other. not (same other owner)) xs) xs rest

-- what is counted of the others
pub taken-out : {O : Type 0} (same : O → O → Bool) → IsEquivalence same → (owner : O) (old new : O → Option Owned) (owners : List O)
    → ((q : O) → new q ≡ cond (same owner q) None (old q)) → ((q : O) → option_map (λ owned. owned.count) (old q) ≡ counted (times same q owners))
    → (q : O) → option_map (λ owned. owned.count) (new q) ≡ counted (times same q (filter (λ other. not (same other owner)) owners))
taken-out {O} same laws owner old new owners updates counts q = by (same owner q) refl
  where
    by : (b : Bool) → same owner q ≡ b → option_map (λ owned. owned.count) (new q) ≡ counted (times same q (filter (λ other. not (same other owner)) owners))
    by true e = rw (updates q, e, times-none same laws owner q e owners) refl
    by false e = rw (updates q, e, times-others same laws owner q e owners) (counts q)

-- the same of what is due
pub owners-left : {O N : Type 0} (test : O → Bool) (dues : List (Due O N)) → owners_of (filter (λ due. test due.owner) dues) ≡ filter test (owners_of dues)
owners-left test [] = refl
owners-left {O} {N} test (due ∷ dues) = by (test due.owner) (owners-left test dues)
  where
    by : (b : Bool) → owners_of (filter (λ due. test due.owner) dues) ≡ filter test (owners_of dues)
        → owners_of (if b then due ∷ filter (λ due. test due.owner) dues else filter (λ due. test due.owner) dues) ≡ (if b then due.owner ∷ filter test (owners_of dues) else filter test (owners_of dues))
    by true rest = ap (λ l. due.owner ∷ l) rest
    by false rest = rest

-- as many of an owner as calls of that owner
pub times-due : {O N : Type 0} (same : O → O → Bool) (owner : O) (dues : List (Due O N)) → length (filter (λ due. same due.owner owner) dues) ≡ times same owner (owners_of dues)
times-due same owner dues = length-map-owners (filter (λ due. same due.owner owner) dues) ∙ ap length (owners-left (λ other. same other owner) dues)
  where
    length-map-owners : {O N : Type 0} (dues : List (Due O N)) → length dues ≡ length (owners_of dues)
    length-map-owners [] = refl
    length-map-owners (due ∷ dues) = ap suc (length-map-owners dues)

pub length-owners : {O N : Type 0} (dues : List (Due O N)) → length (owners_of dues) ≡ length dues
length-owners [] = refl
length-owners (due ∷ dues) = ap suc (length-owners dues)

-- where none passes, a filter leaves all others
pub none-passes : {X : Type 0} (test : X → Bool) (xs : List X) → length (filter test xs) ≡ 0 → filter (λ x. not (test x)) xs ≡ xs
none-passes test [] none = refl
none-passes {X} test (x ∷ xs) none = by (test x) none (none-passes test xs)
  where
    by : (b : Bool) → length (if b then x ∷ filter test xs else filter test xs) ≡ 0 → (length (filter test xs) ≡ 0 → filter (λ x. not (test x)) xs ≡ xs) → (if not b then x ∷ filter (λ x. not (test x)) xs else filter (λ x. not (test x)) xs) ≡ x ∷ xs
    by true is rest = absurd (omega (arith, is))
    by false is rest = ap (λ l. x ∷ l) (rest is)

-- where one passes at a place, some do
passes-at : {X : Type 0} (test : X → Bool) (xs : List X) (place : ℕ) → HasAt test xs place → 0 < length (filter test xs)
passes-at test [] place has = absurd has
passes-at test (x ∷ xs) zero has = rw has (omega arith)
passes-at {X} test (x ∷ xs) (suc place) has = by (test x) (passes-at test xs place has)
  where
    by : (b : Bool) → 0 < length (filter test xs) → 0 < length (if b then x ∷ filter test xs else filter test xs)
    by true some = omega arith
    by false some = some

pub has-within : {X : Type 0} (test : X → Bool) (xs : List X) (place : ℕ) → HasAt test xs place → place < length xs
has-within test [] place has = absurd has
has-within test (x ∷ xs) zero has = omega arith
has-within test (x ∷ xs) (suc place) has = let within : place < length xs = has-within test xs place has in omega (arith, within)

-- what was there has been taken out
pub removed : {X : Type 0} (taken : Option X) (old new : List X) (place len : ℕ) → OnSome taken (new ≡ remove old place) → (IsSome taken ↔ (place < len)) → place < len → new ≡ remove old place
removed {X} None old new place len is there within = absurd (false≢true (there.1 within))
removed (Some x) old new place len is there within = is

-- where one alone passes, what is left without it passes the other test
pub without-only : {X : Type 0} (test : X → Bool) (xs : List X) (place : ℕ) → HasAt test xs place → length (filter test xs) ≡ 1 → remove xs place ≡ filter (λ x. not (test x)) xs
without-only test [] place has one = absurd has
without-only {X} test (x ∷ xs) zero has one =
    let none : length (filter test xs) ≡ 0 = by (test x) has one in
    rw has (sym (none-passes test xs none))
  where
    by : (b : Bool) → b ≡ true → length (if b then x ∷ filter test xs else filter test xs) ≡ 1 → length (filter test xs) ≡ 0
    by true e is = omega (arith, is)
    by false e is = absurd cc
without-only {X} test (x ∷ xs) (suc place) has one = by (test x) one (without-only test xs place has)
  where
    by : (b : Bool) → length (if b then x ∷ filter test xs else filter test xs) ≡ 1 → (length (filter test xs) ≡ 1 → remove xs place ≡ filter (λ x. not (test x)) xs)
        → x ∷ remove xs place ≡ (if not b then x ∷ filter (λ x. not (test x)) xs else filter (λ x. not (test x)) xs)
    by true is rest = absurd (let some : 0 < length (filter test xs) = passes-at test xs place has in omega (arith, is, some))
    by false is rest = ap (λ l. x ∷ l) (rest is)

-- what was read at a place
pub has-at : {X : Type 0} (test : X → Bool) (xs : List X) (place : ℕ) (read : X) → place < length xs → read ≡ get_or xs place read → test read ≡ true → HasAt test xs place
has-at test [] place read within is passes = absurd (omega (arith, within))
has-at test (x ∷ xs) zero read within is passes = let same : read ≡ x = is in rw (sym same) passes
has-at test (x ∷ xs) (suc place) read within is passes = has-at test xs place read (omega (arith, within)) is passes

-- the order of the owners says nothing
times-moved : {O : Type 0} (same : O → O → Bool) (owner : O) (xs ys : List O) → IsPermutation xs ys → times same owner xs ≡ times same owner ys
times-moved same owner xs ys moved = length-filter (λ other. same other owner) xs ∙ sym (sum_by-IsPermutation _ xs ys moved) ∙ sym (length-filter (λ other. same other owner) ys)

pub counted-moved : {O : Type 0} (same : O → O → Bool) (kept : Owners O) (xs ys : List O) → IsPermutation xs ys → CountsEach same kept xs → CountsEach same kept ys
counted-moved same kept xs ys moved counts complete owner = counts complete owner ∙ ap counted (times-moved same owner xs ys moved)

-- with one more call, wherever it stands
pub counted-inserted : {O N : Type 0} (same : O → O → Bool) (kept : Owners O) (due : Due O N) (old new : List (Due O N)) → new ≡ insert_due due old → CountsEach same kept (due.owner ∷ owners_of old) → CountsEach same kept (owners_of new)
counted-inserted same kept due old new is counts =
    rw is (counted-moved same kept (owners_of (due ∷ old)) (owners_of (insert_due due old)) (IsPermutation-map (λ d. d.owner) (due ∷ old) (insert_due due old) (IsPermutation-insert_due due old)) counts)

taken-further : {X : Type 0} (xs : List X) (k : ℕ) (x : X) → k < length xs → x ≡ get_or xs k x → IsPermutation (x ∷ take k xs) (take (suc k) xs)
taken-further [] k x within is = absurd (omega (arith, within))
taken-further (y ∷ ys) zero x within is = let same : x ≡ y = is in rw same (IsPermutation-refl _)
taken-further (y ∷ ys) (suc k) x within is =
    IsPermutation-trans _ (y ∷ x ∷ take k ys) _ (IsPermutation-middle (x ∷ []) y (take k ys)) (IsPermutation-cons y _ _ (taken-further ys k x (omega (arith, within)) is))

-- with the next of a list
pub counted-further : {O N : Type 0} (same : O → O → Bool) (kept : Owners O) (dues : List (Due O N)) (k : ℕ) (due : Due O N) → k < length dues → due ≡ get_or dues k due
    → CountsEach same kept (due.owner ∷ owners_of (take k dues)) → CountsEach same kept (owners_of (take (k + 1) dues))
counted-further same kept dues k due within is counts =
    let next : k + 1 ≡ suc k = omega arith in
    rw next (counted-moved same kept (owners_of (due ∷ take k dues)) (owners_of (take (suc k) dues)) (IsPermutation-map (λ d. d.owner) (due ∷ take k dues) (take (suc k) dues) (taken-further dues k due within is)) counts)

-- without an owner's
pub counted-left : {O N : Type 0} (same : O → O → Bool) (kept : Owners O) (owner : O) (old new : List (Due O N)) → new ≡ filter (λ due. not (same due.owner owner)) old → CountsEach same kept (filter (λ other. not (same other owner)) (owners_of old)) → CountsEach same kept (owners_of new)
counted-left same kept owner old new is counts = rw (is, owners-left (λ other. not (same other owner)) old) counts

counted-none : (n : ℕ) → None ≡ counted n → n ≡ 0
counted-none zero is = refl
counted-none (suc n) is = absurd cc

-- of whom nothing is kept nothing is due
pub nothing-due : {O N : Type 0} (same : O → O → Bool) (owner : O) (dues : List (Due O N)) (taken : Option Owned) → taken ≡ None → option_map (λ owned. owned.count) taken ≡ counted (times same owner (owners_of dues)) → dues ≡ filter (λ due. not (same due.owner owner)) dues
nothing-due same owner dues taken none is =
    let zeros : times same owner (owners_of dues) ≡ 0 = counted-none (times same owner (owners_of dues)) (ap (λ o. option_map (λ owned. owned.count) o) (sym none) ∙ is) in
    sym (none-passes (λ due. same due.owner owner) dues (times-due same owner dues ∙ zeros))

counted-is : (n : ℕ) → unwrap_or (counted n) 0 ≡ n
counted-is zero = refl
counted-is (suc n) = refl

filter-le : {X : Type 0} (test : X → Bool) (xs : List X) → length (filter test xs) ≤ length xs
filter-le test [] = omega arith
filter-le {X} test (x ∷ xs) = by (test x) (filter-le test xs)
  where
    by : (b : Bool) → length (filter test xs) ≤ length xs → length (if b then x ∷ filter test xs else filter test xs) ≤ suc (length xs)
    by true le = omega (arith, le)
    by false le = omega (arith, le)

-- what is kept is no more than there is
pub count-le : {O N : Type 0} (same : O → O → Bool) (kept : Owners O) (owner : O) (dues : List (Due O N)) → CountsEach same kept (owners_of dues) → kept.complete ≡ true → count_at same kept owner ≤ length dues
count-le same kept owner dues counts complete =
    let is : count_at same kept owner ≡ times same owner (owners_of dues) = ap (λ o. unwrap_or o 0) (counts complete owner) ∙ counted-is (times same owner (owners_of dues)) in
    let le = filter-le (λ other. same other owner) (owners_of dues) in
    let long = length-owners dues in
    omega (arith, is, le, long)
