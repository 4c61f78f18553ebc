-- What stays of a list in the order in which its calls come due. The lemmas speak of lists alone, for whoever keeps an agenda.
use Rattle.uvm_phase.proofs.Common.{◌≡◌, suc, Bool, true, false, not, List, [], ◌∷◌, length, filter, All, AllPairs, IsPermutation, if◌then◌else◌, Option, IfSome, drop, refl, sym, ◌∙◌, subst, arith, slice_get, nat_tests, All-nil, All-cons, All-head, All-tail, All-weaker, All-filter, AllPairs-cons, IsPermutation-refl, IsPermutation-sym, IsPermutation-trans, IsPermutation-cons, IsPermutation-middle, All-permutation, length_permutation, Due, same_cause, is_due_before, insert_due, in_order, IsInOrder, IsOrderOf, OrderKeepsAll, OrderKeepsFilters, OrderLosesFirst}
use Rattle.uvm_phase.proofs.Before.{before_others, not_before}

-- an insertion moves elements
insert_due-tested : {O N : Type 0} (due other : Due O N) (others : List (Due O N)) (b : Bool) → IsPermutation (due ∷ others) (insert_due due others) → IsPermutation (due ∷ other ∷ others) (if b then due ∷ other ∷ others else other ∷ insert_due due others)
insert_due-tested due other others true moved = IsPermutation-refl _
insert_due-tested due other others false moved =
    IsPermutation-trans _ (other ∷ due ∷ others) _ (IsPermutation-middle (due ∷ []) other others) (IsPermutation-cons other _ _ moved)

pub IsPermutation-insert_due : {O N : Type 0} (due : Due O N) (dues : List (Due O N)) → IsPermutation (due ∷ dues) (insert_due due dues)
IsPermutation-insert_due due [] = IsPermutation-refl _
IsPermutation-insert_due due (other ∷ others) =
    insert_due-tested due other others (is_due_before due other) (IsPermutation-insert_due due others)

-- the order has what the list has
pub IsPermutation-in_order : {O N : Type 0} (dues : List (Due O N)) → IsPermutation dues (in_order dues)
IsPermutation-in_order [] = IsPermutation-refl _
IsPermutation-in_order (due ∷ dues) =
    IsPermutation-trans _ (due ∷ in_order dues) _ (IsPermutation-cons due _ _ (IsPermutation-in_order dues)) (IsPermutation-insert_due due (in_order dues))

pub length-in_order : {O N : Type 0} (dues : List (Due O N)) → length (in_order dues) ≡ length dues
length-in_order dues = length_permutation _ _ (IsPermutation-in_order dues)

pub All-in_order : {O N : Type 0} (P : Due O N → Type 0) (dues : List (Due O N)) → All P dues → All P (in_order dues)
All-in_order P dues each = All-permutation P _ _ (IsPermutation-in_order dues) each

pub All-from_in_order : {O N : Type 0} (P : Due O N → Type 0) (dues : List (Due O N)) → All P (in_order dues) → All P dues
All-from_in_order P dues each = All-permutation P _ _ (IsPermutation-sym _ _ (IsPermutation-in_order dues)) each

-- a relation of each to those behind it, by recursion
abbrev pub Behind : {O N : Type 0} → (Due O N → Due O N → Type 0) → List (Due O N) → Type 0
Behind R [] = Unit {0}
Behind R (due ∷ dues) = All (R due) dues × Behind R dues

pub AllPairs-from_behind : {O N : Type 0} (R : Due O N → Due O N → Type 0) (dues : List (Due O N)) → Behind R dues → AllPairs R dues
AllPairs-from_behind R [] each = λ i j d before within. absurd (omega arith)
AllPairs-from_behind R (due ∷ dues) each = AllPairs-cons R due dues each.0 (AllPairs-from_behind R dues each.1)

pub behind_from_AllPairs : {O N : Type 0} (R : Due O N → Due O N → Type 0) (dues : List (Due O N)) → AllPairs R dues → Behind R dues
behind_from_AllPairs R [] each = tt
behind_from_AllPairs R (due ∷ dues) each =
    (λ k d within. each 0 (suc k) d (omega arith) (omega arith), behind_from_AllPairs R dues (λ i j d before within. each (suc i) (suc j) d (omega arith) (omega arith)))

-- one that comes after a given one, and one that does not come before it
abbrev pub After : {O N : Type 0} → Due O N → Due O N → Type 0
After due later = is_due_before due later ≡ true

abbrev pub NotBefore : {O N : Type 0} → Due O N → Due O N → Type 0
NotBefore due later = is_due_before later due ≡ false

-- the list in order, by recursion
abbrev pub Ordered : {O N : Type 0} → List (Due O N) → Type 0
Ordered dues = Behind NotBefore dues

-- what comes before the first of an order comes before all of it
before_all : {O N : Type 0} (due other : Due O N) (others : List (Due O N)) → is_due_before due other ≡ true → Ordered (other ∷ others) → All (After due) (other ∷ others)
before_all due other others first ordered =
    All-cons (After due) other others first (All-weaker (NotBefore other) (After due) (λ later h. before_others due other later first h) others ordered.0)

insert_due-ordered : {O N : Type 0} (due other : Due O N) (others : List (Due O N)) (b : Bool) → is_due_before due other ≡ b → Ordered (other ∷ others) → Ordered (insert_due due others) → Ordered (if b then due ∷ other ∷ others else other ∷ insert_due due others)
insert_due-ordered due other others true first ordered rest =
    (All-weaker (After due) (NotBefore due) (λ later h. not_before due later h) (other ∷ others) (before_all due other others first ordered), ordered)
insert_due-ordered due other others false first ordered rest =
    (All-permutation (NotBefore other) (due ∷ others) (insert_due due others) (IsPermutation-insert_due due others) (All-cons (NotBefore other) due others first ordered.0), rest)

pub Ordered-insert_due : {O N : Type 0} (due : Due O N) (dues : List (Due O N)) → Ordered dues → Ordered (insert_due due dues)
Ordered-insert_due due [] ordered = (All-nil (NotBefore due), tt)
Ordered-insert_due due (other ∷ others) ordered =
    insert_due-ordered due other others (is_due_before due other) refl ordered (Ordered-insert_due due others ordered.1)

pub Ordered-in_order : {O N : Type 0} (dues : List (Due O N)) → Ordered (in_order dues)
Ordered-in_order [] = tt
Ordered-in_order (due ∷ dues) = Ordered-insert_due due (in_order dues) (Ordered-in_order dues)

-- the order is in order
pub IsInOrder-in_order : {O N : Type 0} (dues : List (Due O N)) → IsInOrder (in_order dues)
IsInOrder-in_order dues = AllPairs-from_behind NotBefore (in_order dues) (Ordered-in_order dues)

pub is_order_of : {O N : Type 0} (dues : List (Due O N)) → IsOrderOf dues
is_order_of dues = record { same = IsPermutation-in_order dues; ordered = IsInOrder-in_order dues }

-- what comes before all of a list stands in front of them
pub insert_due-first : {O N : Type 0} (due : Due O N) (dues : List (Due O N)) → All (λ later. is_due_before due later ≡ true) dues → insert_due due dues ≡ due ∷ dues
insert_due-first due [] each = refl
insert_due-first due (other ∷ others) each = let h : is_due_before due other ≡ true = All-head (After due) other others each in rw h refl

-- a filter of a list with one more, by whether that one passes
filter-step : {O N : Type 0} (p : Due O N → Bool) (due other : Due O N) (others : List (Due O N)) (mine this b : Bool) → p due ≡ mine → p other ≡ this → is_due_before due other ≡ b → Ordered (other ∷ others) → filter p (insert_due due others) ≡ (if mine then insert_due due (filter p others) else filter p others) → filter p (if b then due ∷ other ∷ others else other ∷ insert_due due others) ≡ (if mine then insert_due due (filter p (other ∷ others)) else filter p (other ∷ others))
filter-step p due other others false this true mine_is this_is b_is ordered rest = rw mine_is refl
filter-step p due other others false this false mine_is this_is b_is ordered rest = rw rest refl
filter-step p due other others true this true mine_is this_is b_is ordered rest =
    rw mine_is (sym (insert_due-first due (filter p (other ∷ others)) (All-filter p (After due) (other ∷ others) (before_all due other others b_is ordered))))
filter-step p due other others true true false mine_is this_is b_is ordered rest = rw (this_is, b_is, rest) refl
filter-step p due other others true false false mine_is this_is b_is ordered rest = rw (this_is, rest) refl

filter-insert_due : {O N : Type 0} (p : Due O N → Bool) (due : Due O N) (dues : List (Due O N)) → Ordered dues → filter p (insert_due due dues) ≡ (if p due then insert_due due (filter p dues) else filter p dues)
filter-insert_due p due [] ordered = one (p due)
  where
    one : (b : Bool) → (if b then due ∷ [] else []) ≡ (if b then due ∷ [] else [])
    one b = refl
filter-insert_due p due (other ∷ others) ordered =
    filter-step p due other others (p due) (p other) (is_due_before due other) refl refl refl ordered (filter-insert_due p due others ordered.1)

-- a filter keeps the order
in_order-tested : {O N : Type 0} (p : Due O N → Bool) (due : Due O N) (dues : List (Due O N)) (b : Bool) → (if b then insert_due due (in_order (filter p dues)) else in_order (filter p dues)) ≡ in_order (if b then due ∷ filter p dues else filter p dues)
in_order-tested p due dues true = refl
in_order-tested p due dues false = refl

pub filter-in_order : {O N : Type 0} (p : Due O N → Bool) (dues : List (Due O N)) → filter p (in_order dues) ≡ in_order (filter p dues)
filter-in_order p [] = refl
filter-in_order p (due ∷ dues) =
    filter-insert_due p due (in_order dues) (Ordered-in_order dues)
    ∙ rw (filter-in_order p dues) (in_order-tested p due dues (p due))

-- causes that differ
abbrev Differ : {O N : Type 0} → Due O N → Due O N → Type 0
Differ due other = same_cause due.cause other.cause ≡ false

differ-sym : {O N : Type 0} (due other : Due O N) → Differ due other → Differ other due
differ-sym due other h = grind (arith, nat_tests)

apart-tested : {O N : Type 0} (due other : Due O N) (others : List (Due O N)) (b : Bool) → All (Differ due) (other ∷ others) → Behind Differ (other ∷ others) → Behind Differ (insert_due due others) → Behind Differ (if b then due ∷ other ∷ others else other ∷ insert_due due others)
apart-tested due other others true each apart rest = (each, apart)
apart-tested due other others false each apart rest =
    (All-permutation (Differ other) (due ∷ others) (insert_due due others) (IsPermutation-insert_due due others) (All-cons (Differ other) due others (differ-sym due other (All-head (Differ due) other others each)) apart.0), rest)

apart-insert_due : {O N : Type 0} (due : Due O N) (dues : List (Due O N)) → All (Differ due) dues → Behind Differ dues → Behind Differ (insert_due due dues)
apart-insert_due due [] each apart = (each, tt)
apart-insert_due due (other ∷ others) each apart =
    apart-tested due other others (is_due_before due other) each apart (apart-insert_due due others (All-tail (Differ due) other others each) apart.1)

apart-in_order : {O N : Type 0} (dues : List (Due O N)) → Behind Differ dues → Behind Differ (in_order dues)
apart-in_order [] apart = tt
apart-in_order (due ∷ dues) apart =
    apart-insert_due due (in_order dues) (All-in_order (Differ due) dues apart.0) (apart-in_order dues apart.1)

-- what differs from a cause stays where that cause is taken out
kept-others : {O N : Type 0} (due : Due O N) (others : List (Due O N)) → All (Differ due) others → filter (λ other. not (same_cause other.cause due.cause)) others ≡ others
kept-others due [] each = refl
kept-others due (other ∷ others) each =
    let here : same_cause other.cause due.cause ≡ false = differ-sym due other (All-head (Differ due) other others each) in
    rw (here, kept-others due others (All-tail (Differ due) other others each)) refl

same_cause-self : {O N : Type 0} (due : Due O N) → same_cause due.cause due.cause ≡ true
same_cause-self due = grind (arith, nat_tests)

-- where no two causes are one, what is left after the first is the order of the list without its cause
pub without-first : {O N : Type 0} (dues : List (Due O N)) (first : Due O N) (rest : List (Due O N)) → AllPairs (λ due other. same_cause due.cause other.cause ≡ false) dues → in_order dues ≡ first ∷ rest → in_order (filter (λ due. not (same_cause due.cause first.cause)) dues) ≡ rest
without-first {O} {N} dues first rest apart is =
    let Apart : List (Due O N) → Type 0 = Behind Differ in
    let others : All (Differ first) rest = (subst Apart is (apart-in_order dues (behind_from_AllPairs Differ dues apart))).0 in
    sym (filter-in_order (λ due. not (same_cause due.cause first.cause)) dues)
    ∙ rw (is, same_cause-self first) (kept-others first rest others)

-- the same of what is left after the first was taken
pub without-taken : {O N : Type 0} (known dues left : List (Due O N)) (taken : Option (Due O N)) → AllPairs (λ due other. same_cause due.cause other.cause ≡ false) known → dues ≡ in_order known → taken ≡ slice_get dues 0 → left ≡ drop 1 dues → IfSome taken (λ due. left ≡ in_order (filter (λ other. not (same_cause other.cause due.cause)) known))
without-taken known [] left taken apart is first rest = rw first tt
without-taken known (due ∷ others) left taken apart is first rest =
    rw first (rest ∙ sym (without-first known due others apart (sym is)))

pub order_keeps_all : {O N : Type 0} → OrderKeepsAll O N
order_keeps_all dues = IsPermutation-in_order dues

pub order_keeps_filters : {O N : Type 0} → OrderKeepsFilters O N
order_keeps_filters p dues = filter-in_order p dues

pub order_loses_first : {O N : Type 0} → OrderLosesFirst O N
order_loses_first known dues left taken apart is first rest = without-taken known dues left taken apart is first rest
