-- Where a call stands that is added to a list in the order in which its calls come due.
use Rattle.uvm_phase.proofs.Common.{◌≡◌, ℕ, zero, suc, Bool, true, false, not, List, [], ◌∷◌, drop, filter, get_or, All, Bor, Option, Some, None, IfSome, option_copied, if◌then◌else◌, refl, sym, ap, arith, insert, slice_get, IsPartitionedBy, IsPartitionPoint, All-cons, All-get_or, All-filter, Due, is_due_before, insert_due, IsInOrder}
use Rattle.uvm_phase.proofs.Before.{before_others, not_before_self}
use Rattle.uvm_phase.proofs.Ordered.{NotBefore, Ordered, AllPairs-from_behind, behind_from_AllPairs, Ordered-insert_due, insert_due-first}

-- what does not come after one does not come after any behind it
not-after-step : {O N : Type 0} (due other last : Due O N) (b : Bool) → is_due_before due other ≡ b → is_due_before last other ≡ false → is_due_before due last ≡ false → is_due_before due other ≡ false
not-after-step due other last true first behind none = absurd (let bad : is_due_before due last ≡ true = before_others due other last first behind in cc)
not-after-step due other last false first behind none = first

-- whether one does not come after a given one
abbrev pub is_not_after : {O N : Type 0} → Due O N → Due O N → Bool
is_not_after due other = not (is_due_before due other)

not-true : (b : Bool) → not b ≡ true → b ≡ false
not-true true is = absurd cc
not-true false is = refl

not-false : (b : Bool) → not b ≡ false → b ≡ true
not-false true is = refl
not-false false is = absurd cc

-- in an order those that do not come after one stand in front of those that do
parts : {O N : Type 0} (due : Due O N) (dues : List (Due O N)) → Ordered dues → IsPartitionedBy (is_not_after due) dues
parts due [] ordered i j d le within none = absurd (omega arith)
parts due (other ∷ others) ordered zero zero d le within none = none
parts due (other ∷ others) ordered zero (suc j) d le within none =
    let behind : is_due_before (get_or others j d) other ≡ false = All-get_or (NotBefore other) others j d (omega arith) ordered.0 in
    let first : is_due_before due other ≡ false = not-after-step due other (get_or others j d) (is_due_before due other) refl behind (not-true (is_due_before due (get_or others j d)) none) in
    ap not first
parts due (other ∷ others) ordered (suc i) zero d le within none = absurd (omega arith)
parts due (other ∷ others) ordered (suc i) (suc j) d le within none = parts due others ordered.1 i j d (omega arith) (omega arith) none

-- where it is in order
pub ordered : {O N : Type 0} (dues : List (Due O N)) → IsInOrder dues → Ordered dues
ordered dues each = behind_from_AllPairs NotBefore dues each

pub in-order : {O N : Type 0} (dues : List (Due O N)) → Ordered dues → IsInOrder dues
in-order dues each = AllPairs-from_behind NotBefore dues each

-- it stays so with one more, without the first, and where some are taken out
pub inserted-in-order : {O N : Type 0} (due : Due O N) (old new : List (Due O N)) → IsInOrder old → new ≡ insert_due due old → IsInOrder new
inserted-in-order due old new each is = rw is (in-order (insert_due due old) (Ordered-insert_due due old (ordered old each)))

ordered-rest : {O N : Type 0} (dues : List (Due O N)) → Ordered dues → Ordered (drop 1 dues)
ordered-rest [] each = tt
ordered-rest (due ∷ dues) each = each.1

pub rest-in-order : {O N : Type 0} (old new : List (Due O N)) → IsInOrder old → new ≡ drop 1 old → IsInOrder new
rest-in-order old new each is = rw is (in-order (drop 1 old) (ordered-rest old (ordered old each)))

filter-tested : {O N : Type 0} (p : Due O N → Bool) (due : Due O N) (dues : List (Due O N)) (b : Bool) → All (NotBefore due) dues → Ordered (filter p dues) → Ordered (if b then due ∷ filter p dues else filter p dues)
filter-tested p due dues true each rest = (All-filter p (NotBefore due) dues each, rest)
filter-tested p due dues false each rest = rest

ordered-filter : {O N : Type 0} (p : Due O N → Bool) (dues : List (Due O N)) → Ordered dues → Ordered (filter p dues)
ordered-filter p [] each = tt
ordered-filter p (due ∷ dues) each = filter-tested p due dues (p due) each.0 (ordered-filter p dues each.1)

pub left-in-order : {O N : Type 0} (p : Due O N → Bool) (old new : List (Due O N)) → IsInOrder old → new ≡ filter p old → IsInOrder new
left-in-order p old new each is = rw is (in-order (filter p old) (ordered-filter p old (ordered old each)))

-- none comes before what comes due first
least_is : {O N : Type 0} (dues : List (Due O N)) (due : Due O N) → Ordered dues → Some due ≡ slice_get dues 0 → All (NotBefore due) dues
least_is [] due each is = absurd cc
least_is (first ∷ dues) due each is =
    let same : due ≡ first = cc in
    rw same (All-cons (NotBefore first) first dues (not_before_self first) each.0)

pub least_read : {O N : Type 0} (dues : List (Due O N)) (read : Option (Bor (Due O N))) → IsInOrder dues → option_copied read ≡ slice_get dues 0 → IfSome read (λ due. All (λ other. is_due_before other due.now ≡ false) dues)
least_read dues None each is = tt
least_read dues (Some due) each is = least_is dues due.now (ordered dues each) is

pub is_partitioned : {O N : Type 0} (due : Due O N) (dues : List (Due O N)) → IsInOrder dues → IsPartitionedBy (is_not_after due) dues
is_partitioned due dues each = parts due dues (ordered dues each)

-- it stands where the two parts meet
pub stands-between : {O N : Type 0} (due : Due O N) (dues : List (Due O N)) (place : ℕ) → IsPartitionPoint (λ other. is_not_after due other ≡ true) (λ other. is_not_after due other ≡ false) dues place → insert dues place due ≡ insert_due due dues
stands-between due [] zero point = refl
stands-between due [] (suc place) point = refl
stands-between due (other ∷ others) zero point =
    sym (insert_due-first due (other ∷ others) (λ k d within. not-false (is_due_before due (get_or (other ∷ others) k d)) (point.1 k d (omega arith) within)))
stands-between due (other ∷ others) (suc place) point =
    let here : is_due_before due other ≡ false = not-true (is_due_before due other) (point.0 0 other (omega arith) (omega arith)) in
    rw here (ap (λ l. other ∷ l) (stands-between due others place (λ k d low high. point.0 (suc k) d (omega arith) (omega arith), λ k d low high. point.1 (suc k) d (omega arith) (omega arith))))
