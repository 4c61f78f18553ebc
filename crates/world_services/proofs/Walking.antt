-- A walk through a tree to the first component that waits.
use Rattle.world_services.proofs.Common.{◌≡◌, ◌<◌, ◌≤◌, ◌+◌, ◌-◌, ℕ, zero, suc, Bool, true, false, not, List, [], ◌∷◌, length, filter, Contains, All, Option, Some, None, IfSome, IfNone, refl, ap, sym, ◌∙◌, subst, inl, inr, arith, rules, if◌then◌else◌, cases_lt, All-cons, All-contains, All-contains_itself, All-filter, All-head, All-nil, All-tail, Contains-append_cases, Contains-append_right, filter_passes, length-range_with_len, get_or-range_with_len, range_with_len, option_map_or, Direction, PathOrder, order_of, IsLeast, LeastIsLeast, OneIsLeast, OrdersNodes, is_after, is_before, least, node_cmp, nodes_after, numbers_of, Phase, had_call, AreComponentNodes, IsComponentNode, PhaseCursor, ArePhaseCursor, IsFirstWaiting, IsStart, waits, Node}
use Rattle.world_services.proofs.Waiting.{after-is, chain, never-itself, or-false, other-way}

-- the walk has come to a node: it stands in the tree, and no component that waits comes before it
pub record IsNextOf (order : PathOrder) (nodes : List Node) (phase_cursors : PhaseCursor) (next : Option ℕ) : Type 0 where
  pub none : IfNone next ((n : ℕ) → IsComponentNode nodes n → waits nodes phase_cursors n ≡ true → ⊥)
  pub inside : IfSome next (λ c. (0 < c) × (c < length nodes))
  pub first : IfSome next (λ c. (n : ℕ) → IsComponentNode nodes n → waits nodes phase_cursors n ≡ true → is_before order nodes n c ≡ false)

-- how many nodes it has before it
abbrev pub left_from : PathOrder → List Node → Option ℕ → ℕ
left_from order nodes next = option_map_or (λ c. suc (length (nodes_after order nodes (Some c)))) next 0

module _ (p : ℕ → Bool) where
  held-tested : (c a : ℕ) (rest : List ℕ) (b : Bool) → Contains rest c → Contains (if b then a ∷ rest else rest) c
  held-tested c a rest true there = Contains-append_right (a ∷ []) rest c there
  held-tested c a rest false there = there

  held-from : (c a k : ℕ) → a ≤ c → c < a + k → p c ≡ true → Contains (filter p (range_with_len a k)) c
  held-from c a zero low high passes = absurd (omega arith)
  held-from c a (suc k) low high passes =
      elim (cases_lt a c) [
        | inl lt ↦ held-tested c a (filter p (range_with_len (a + 1) k)) (p a) (held-from c (a + 1) k (omega arith) (omega arith) passes)
        | inr ge ↦
            let same : a ≡ c = omega arith in
            let first : p a ≡ true = ap p same ∙ passes in
            rw first (0, search rules, same)
      ]

  -- a node that passes is one of those that do
  pub held : (nodes : List Node) (c : ℕ) → 0 < c → c < length nodes → p c ≡ true → Contains (filter p (numbers_of nodes)) c
  held nodes c low high passes = held-from c 1 (length nodes - 1) (omega arith) (omega arith) passes

  inside-from : (a k : ℕ) → 0 < a → All (λ n. (0 < n) × (n < a + k)) (range_with_len a k)
  inside-from a k some = λ i d lt. let below : i < k = omega (arith, lt, length-range_with_len a k) in rw (get_or-range_with_len a k i d below) (omega arith, omega arith)

  -- and each of those stands in the tree
  pub inside-of : (nodes : List Node) (c : ℕ) → Contains (filter p (numbers_of nodes)) c → (0 < c) × (c < length nodes)
  inside-of nodes c has =
      let both = All-contains (λ n. (0 < n) × (n < 1 + (length nodes - 1))) (filter p (numbers_of nodes)) c (All-filter p (λ n. (0 < n) × (n < 1 + (length nodes - 1))) (numbers_of nodes) (inside-from 1 (length nodes - 1) (omega arith))) has in
      (both.0, omega (arith, both.0, both.1))

  pub passes-of : (xs : List ℕ) (c : ℕ) → Contains (filter p xs) c → p c ≡ true
  passes-of xs c has = All-contains (λ n. p n ≡ true) (filter p xs) c (filter_passes p xs) has

-- a test that fewer pass
module _ (p q : ℕ → Bool) (weaker : (n : ℕ) → p n ≡ true → q n ≡ true) where
  at-most : (xs : List ℕ) → length (filter p xs) ≤ length (filter q xs)
  at-most [] = omega arith
  at-most (x ∷ xs) = by (p x) (q x) refl refl (at-most xs)
    where
      by : (b c : Bool) → p x ≡ b → q x ≡ c → length (filter p xs) ≤ length (filter q xs) → length (filter p (x ∷ xs)) ≤ length (filter q (x ∷ xs))
      by true true is was rest = rw (is, was) (omega (arith, rest))
      by true false is was rest = absurd (let f = weaker x is in cc)
      by false true is was rest = rw (is, was) (omega (arith, rest))
      by false false is was rest = rw (is, was) rest

  fewer : (xs : List ℕ) (c : ℕ) → Contains xs c → q c ≡ true → p c ≡ false → length (filter p xs) < length (filter q xs)
  fewer [] c has passes fails = absurd (let h = has.1 in omega arith)
  fewer (x ∷ xs) c has passes fails =
      elim (Contains-append_cases (x ∷ []) xs c has) [
        | inl here ↦
            let one : x ≡ c = All-contains (λ y. x ≡ y) (x ∷ []) c (All-cons (λ y. x ≡ y) x [] refl (All-nil _)) here in
            let out : p x ≡ false = ap p one ∙ fails in
            let in_ : q x ≡ true = ap q one ∙ passes in
            rw (out, in_) (omega (arith, at-most xs))
        | inr there ↦ by (p x) (q x) refl refl (fewer xs c there passes fails)
      ]
    where
      by : (b d : Bool) → p x ≡ b → q x ≡ d → length (filter p xs) < length (filter q xs) → length (filter p (x ∷ xs)) < length (filter q (x ∷ xs))
      by true true is was less = rw (is, was) (omega (arith, less))
      by true false is was less = absurd (let f = weaker x is in cc)
      by false true is was less = rw (is, was) (omega (arith, less))
      by false false is was less = rw (is, was) less

module _ (direction : Direction) (nodes : List Node) (phase_cursors : PhaseCursor) (orders : OrdersNodes nodes (node_cmp (order_of direction) nodes)) where
  abbrev order : PathOrder
  order = order_of direction

  -- what comes next behind a node
  pub next-from : (after next : Option ℕ) → IsLeast (is_before order nodes) (nodes_after order nodes after) next → ((n : ℕ) → IsComponentNode nodes n → waits nodes phase_cursors n ≡ true → is_after order nodes after n ≡ true) → IsNextOf order nodes phase_cursors next
  next-from after None least from = record {
    none = λ n is waits_. (let has = held (is_after order nodes after) nodes n is.0 is.1 (from n is waits_) in let empty = least.none.0 refl in let h = has.1 in omega (arith, ap length empty));
    inside = tt;
    first = tt;
  }
  next-from after (Some c) least from = record {
    none = tt;
    inside = inside-of (is_after order nodes after) nodes c least.member;
    first = λ n is waits_. All-contains (λ m. is_before order nodes m c ≡ false) (nodes_after order nodes after) n least.first (held (is_after order nodes after) nodes n is.0 is.1 (from n is waits_));
  }

  -- all that wait come behind where the walk begins
  pub start-from : (start : Option ℕ) → IsStart direction phase_cursors start → (n : ℕ) → IsComponentNode nodes n → waits nodes phase_cursors n ≡ true → is_after order nodes start n ≡ true
  start-from None starts n is waits_ = refl
  start-from (Some last) starts n is waits_ = rw starts.0 (rw (starts.1, starts.2, or-false (is_after (order_of phase_cursors.direction) nodes (Some last) n)) at waits_)

  -- and behind a node that is none of them
  pub step-from : (c : ℕ) → IsNextOf order nodes phase_cursors (Some c) → (IsComponentNode nodes c → waits nodes phase_cursors c ≡ true → ⊥) → (n : ℕ) → IsComponentNode nodes n → waits nodes phase_cursors n ≡ true → is_after order nodes (Some c) n ≡ true
  step-from c next other n is waits_ =
      let apart : n ≡ c → ⊥ = λ e. other (subst (IsComponentNode nodes) e is) (subst (λ m. waits nodes phase_cursors m ≡ true) e waits_) in
      after-is order nodes orders c n next.inside.1 ∙ other-way order nodes orders n c is.1 next.inside.1 apart (next.first n is waits_)

  -- fewer are left
  pub left-fewer : (c : ℕ) (next : Option ℕ) → c < length nodes → IsLeast (is_before order nodes) (nodes_after order nodes (Some c)) next → left_from order nodes next < left_from order nodes (Some c)
  left-fewer c None inside least = omega arith
  left-fewer c (Some next) inside least =
      let there = inside-of (is_after order nodes (Some c)) nodes next least.member in
      let passes = passes-of (is_after order nodes (Some c)) (numbers_of nodes) next least.member in
      let low : is_before order nodes c next ≡ true = sym (after-is order nodes orders c next inside) ∙ passes in
      let weaker : (n : ℕ) → is_after order nodes (Some next) n ≡ true → is_after order nodes (Some c) n ≡ true =
      λ n e. after-is order nodes orders c n inside ∙ chain order nodes orders c next n low (sym (after-is order nodes orders next n there.1) ∙ e) in
      let out : is_after order nodes (Some next) next ≡ false = after-is order nodes orders next next there.1 ∙ never-itself order nodes orders next in
      let has = All-contains (Contains (numbers_of nodes)) (nodes_after order nodes (Some c)) next (All-filter (is_after order nodes (Some c)) (Contains (numbers_of nodes)) (numbers_of nodes) (All-contains_itself (numbers_of nodes))) least.member in
      let few = fewer (is_after order nodes (Some next)) (is_after order nodes (Some c)) weaker (numbers_of nodes) next has passes out in
      omega (arith, few)

  -- the walk has come to the first, or to the end
  pub found-first : (c : ℕ) → IsNextOf order nodes phase_cursors (Some c) → IsComponentNode nodes c → waits nodes phase_cursors c ≡ true → IsFirstWaiting (is_before order nodes) nodes phase_cursors (Some c)
  found-first c next is waits_ = record { none = tt; is = (is, waits_); first = next.first }

  pub found-none : IsNextOf order nodes phase_cursors None → IsFirstWaiting (is_before order nodes) nodes phase_cursors None
  found-none next = record { none = λ n is. by n (waits nodes phase_cursors n) refl (next.none n is); is = tt; first = tt }
    where
      by : (n : ℕ) (b : Bool) → waits nodes phase_cursors n ≡ b → (waits nodes phase_cursors n ≡ true → ⊥) → waits nodes phase_cursors n ≡ false
      by n true e never = absurd (never e)
      by n false e never = e

-- who passes is among those that do
passing-holds : (p : ℕ → Bool) (xs : List ℕ) (c : ℕ) → Contains xs c → p c ≡ true → Contains (filter p xs) c
passing-holds p [] c has passes = absurd (let h = has.1 in omega arith)
passing-holds p (x ∷ xs) c has passes =
    elim (Contains-append_cases (x ∷ []) xs c has) [
      | inl here ↦
          let one : x ≡ c = All-contains (λ y. x ≡ y) (x ∷ []) c (All-cons (λ y. x ≡ y) x [] refl (All-nil _)) here in
          let first : p x ≡ true = ap p one ∙ passes in
          rw first (0, search rules, one)
      | inr there ↦ held-tested p c x (filter p xs) (p x) (passing-holds p xs c there passes)
    ]

none-passes : (p : ℕ → Bool) (xs : List ℕ) → All (λ x. p x ≡ false) xs → filter p xs ≡ []
none-passes p [] none = refl
none-passes p (x ∷ xs) none = rw (All-head (λ x. p x ≡ false) x xs none) (none-passes p xs (All-tail (λ x. p x ≡ false) x xs none))

module _ {going : List Phase} {nodes : List Node} {components called : List ℕ} {kept : PhaseCursor} (order : PathOrder) (phase_cursors : ArePhaseCursor going nodes components called kept) (kinds : AreComponentNodes nodes components) where
  abbrev uncalled : ℕ → Bool
  uncalled n = not (had_call called n)

  is-least : (found : Option ℕ) → IsFirstWaiting (is_before order nodes) nodes kept found → IsLeast (is_before order nodes) (filter uncalled components) found
  is-least None first = record {
    none = (λ _. none-passes uncalled components (λ k d lt. phase_cursors.waiting k d lt ∙ first.none _ (kinds.each k d lt)), λ _. refl);
    member = tt;
    first = tt;
  }
  is-least (Some c) first =
      let has = kinds.whole c first.is.0 in
      let passes : uncalled c ≡ true = All-contains (λ n. uncalled n ≡ waits nodes kept n) components c phase_cursors.waiting has ∙ first.is.1 in
      let held_ = passing-holds uncalled components c has passes in
      let each = All-filter uncalled (IsComponentNode nodes) components kinds.each in
      let waiting = All-filter uncalled (λ n. uncalled n ≡ waits nodes kept n) components phase_cursors.waiting in
      record {
        none = (λ e. absurd cc, λ e. absurd (let h = held_.1 in omega (arith, ap length e)));
        member = held_;
        first = λ k d lt. first.first _ (each k d lt) (sym (waiting k d lt) ∙ filter_passes uncalled components k d lt);
      }

  -- the first that waits is the least of those that had no call
  pub first-called : (found : Option ℕ) → OrdersNodes nodes (node_cmp order nodes) → LeastIsLeast → OneIsLeast → IsFirstWaiting (is_before order nodes) nodes kept found → found ≡ least (is_before order nodes) (filter uncalled components)
  first-called found orders leasts one first =
      one nodes (node_cmp order nodes) orders (filter uncalled components) (All-filter uncalled (λ n. n < length nodes) components phase_cursors.within) found (least (is_before order nodes) (filter uncalled components))
      (is-least found first) (leasts (node_cmp order nodes) orders.total (filter uncalled components))
