-- Whose turn it is, over lists alone.
use Rattle.world_services.proofs.Common.{◌≡◌, ◌<◌, ℕ, zero, suc, Bool, true, false, not, ◌||◌, ◌&&◌, ◌==◌, List, [], ◌∷◌, ◌++◌, length, filter, slice_get, All, Contains, Option, Some, None, is_some, IfSome, refl, ap, sym, ◌∙◌, subst, arith, if◌then◌else◌, eqb-true, nat_tests, All-nil, All-cons, All-push, All-weaker, All-contains, All-contains_itself, All-filter, All-head, All-tail, Contains-get_or, Contains-append_left, Contains-push, filter_passes, list_any_none, any-filter_same, list_any, Ordering, Less, Equal, Greater, is_lt, ordering_reverse, PathOrder, order_of, IsLeast, OrdersNodes, is_after, is_before, node_cmp, top, Phase, had_call, phase_order, PhaseCursor, AreSamePhaseCursor, ArePhaseCursor, IsHeardIn, IsMadeIn, last_heard, waits, length-append, Node}

-- a node behind the others leaves their paths
get-before : (xs ys : List Node) (k : ℕ) → k < length xs → slice_get (xs ++ ys) k ≡ slice_get xs k
get-before [] ys k lt = absurd (omega arith)
get-before (x ∷ xs) ys zero lt = refl
get-before (x ∷ xs) ys (suc k) lt = get-before xs ys k (omega arith)

after-more : (order : PathOrder) (nodes : List Node) (x : Node) (last : Option ℕ) (n : ℕ) → IfSome last (λ node. node < length nodes) → n < length nodes → is_after order (nodes ++ x ∷ []) last n ≡ is_after order nodes last n
after-more order nodes x None n within lt = refl
after-more order nodes x (Some last) n within lt = rw (get-before nodes (x ∷ []) last within, get-before nodes (x ∷ []) n lt) refl

pub phase_cursor-same : {going : List Phase} {nodes : List Node} {components called : List ℕ} {old new : PhaseCursor} → AreSamePhaseCursor old new → ArePhaseCursor going nodes components called old → ArePhaseCursor going nodes components called new
phase_cursor-same same phase_cursors = record {
  direction = rw same.direction phase_cursors.direction;
  waiting = rw (same.direction, same.last, same.late) phase_cursors.waiting;
  behind = rw (same.direction, same.last, same.late) phase_cursors.behind;
  known = rw same.late phase_cursors.known;
  last = rw same.last phase_cursors.last;
  within = phase_cursors.within;
  called_within = phase_cursors.called_within;
}

-- before any phase, and any component
pub phase_cursor-none : {kept : PhaseCursor} → kept.last ≡ None → kept.late.items ≡ [] → ArePhaseCursor [] (top ∷ []) [] [] kept
phase_cursor-none last late = record {
  direction = All-nil _;
  waiting = All-nil _;
  behind = rw late (All-nil _);
  known = rw late (All-nil _);
  last = rw last tt;
  within = All-nil _;
  called_within = All-nil _;
}

-- a phase begins
pub phase_cursor-begin :
    {going next : List Phase} {nodes : List Node} {components called : List ℕ} {old new : PhaseCursor} → All (λ phase. order_of new.direction ≡ phase_order phase) next → new.last ≡ None → new.late.items ≡ []
    → ArePhaseCursor going nodes components called old → ArePhaseCursor next nodes components [] new
phase_cursor-begin direction last late phase_cursors = record {
  direction = direction;
  waiting = λ k d lt. rw last refl;
  behind = rw late (All-nil _);
  known = rw late (All-nil _);
  last = rw last tt;
  within = phase_cursors.within;
  called_within = All-nil _;
}

-- fewer are in progress, or others that go in the same order
pub phase_cursor-going : {going next : List Phase} {nodes : List Node} {components called : List ℕ} {kept : PhaseCursor} → All (λ phase. order_of kept.direction ≡ phase_order phase) next → ArePhaseCursor going nodes components called kept → ArePhaseCursor next nodes components called kept
phase_cursor-going direction phase_cursors = record {
  direction = direction;
  waiting = phase_cursors.waiting;
  behind = phase_cursors.behind;
  known = phase_cursors.known;
  last = phase_cursors.last;
  within = phase_cursors.within;
  called_within = phase_cursors.called_within;
}

module _ {going : List Phase} {nodes : List Node} {components called : List ℕ} {kept : PhaseCursor} (x : Node) (phase_cursors : ArePhaseCursor going nodes components called kept) where
  longer : length (nodes ++ x ∷ []) ≡ suc (length nodes)
  longer = omega (arith, length-append nodes (x ∷ []))

  waits-more : (n : ℕ) → n < length nodes → waits (nodes ++ x ∷ []) kept n ≡ waits nodes kept n
  waits-more n lt = ap (λ b. b || list_any (λ late. late == n) kept.late.items) (after-more (order_of kept.direction) nodes x kept.last n phase_cursors.last lt)

  late-within : All (λ node. node < length nodes) kept.late.items
  late-within = All-weaker (Contains components) (λ node. node < length nodes) (λ node has. All-contains (λ n. n < length nodes) components node phase_cursors.within has) kept.late.items phase_cursors.known

  last-more : (last : Option ℕ) → IfSome last (λ node. node < length nodes) → IfSome last (λ node. node < length (nodes ++ x ∷ []))
  last-more None within = tt
  last-more (Some last) within = omega (arith, longer, within)

  behind-more : All (λ node. is_after (order_of kept.direction) (nodes ++ x ∷ []) kept.last node ≡ false) kept.late.items
  behind-more = λ k d lt. after-more (order_of kept.direction) nodes x kept.last _ phase_cursors.last (late-within k d lt) ∙ phase_cursors.behind k d lt

  -- a node is added that is no component
  pub phase_cursor-more : ArePhaseCursor going (nodes ++ x ∷ []) components called kept
  phase_cursor-more = record {
    direction = phase_cursors.direction;
    waiting = λ k d lt. phase_cursors.waiting k d lt ∙ sym (waits-more _ (phase_cursors.within k d lt));
    behind = behind-more;
    known = phase_cursors.known;
    last = last-more kept.last phase_cursors.last;
    within = λ k d lt. omega (arith, longer, phase_cursors.within k d lt);
    called_within = λ k d lt. omega (arith, longer, phase_cursors.called_within k d lt);
  }

-- who had no call yet
fresh : (called : List ℕ) (node : ℕ) → All (λ other. other < node) called → had_call called node ≡ false
fresh called node within = list_any_none (λ other. other == node) called (λ k d l. let lt = within k d l in grind (arith, nat_tests))

any-behind : (late : List ℕ) (node n : ℕ) → n < node → list_any (λ late. late == n) (late ++ node ∷ []) ≡ list_any (λ late. late == n) late
any-behind [] node n lt = let other : (node == n) ≡ false = grind (arith, nat_tests) in rw other refl
any-behind (first ∷ late) node n lt = ap (λ b. (first == n) || b) (any-behind late node n lt)

any-last : (late : List ℕ) (node : ℕ) → list_any (λ late. late == node) (late ++ node ∷ []) ≡ true
any-last [] node = let same : (node == node) ≡ true = grind (arith, nat_tests) in rw same refl
any-last (first ∷ late) node = or-true (first == node) _ (any-last late node)
  where
    or-true : (a b : Bool) → b ≡ true → (a || b) ≡ true
    or-true true b is = refl
    or-true false b is = is

-- a component is made: it comes after the one that had its call last, or is late
module _ {going : List Phase} {nodes : List Node} {components called : List ℕ} {kept new : PhaseCursor} (x : Node) (phase_cursors : ArePhaseCursor going nodes components called kept) (made : IsMadeIn (nodes ++ x ∷ []) (length nodes) kept new) where
  abbrev more : List Node
  more = nodes ++ x ∷ []

  abbrev after : Bool
  after = is_after (order_of kept.direction) more kept.last (length nodes)

  abbrev late_with : Bool → List ℕ
  late_with b = if b then kept.late.items else kept.late.items ++ length nodes ∷ []

  any-same : (b : Bool) (n : ℕ) → n < length nodes → list_any (λ late. late == n) (late_with b) ≡ list_any (λ late. late == n) kept.late.items
  any-same true n lt = refl
  any-same false n lt = any-behind kept.late.items (length nodes) n lt

  waits-new : (b : Bool) → after ≡ b → (after || list_any (λ late. late == length nodes) (late_with b)) ≡ true
  waits-new true is = rw is refl
  waits-new false is = rw (is, any-last kept.late.items (length nodes)) refl

  behind-new : (b : Bool) → after ≡ b → All (λ node. is_after (order_of kept.direction) more kept.last node ≡ false) (late_with b)
  behind-new true is = behind-more x phase_cursors
  behind-new false is = All-push (λ node. is_after (order_of kept.direction) more kept.last node ≡ false) kept.late.items (length nodes) (behind-more x phase_cursors) is

  known-old : All (Contains (components ++ length nodes ∷ [])) kept.late.items
  known-old = All-weaker (Contains components) (Contains (components ++ length nodes ∷ [])) (λ node has. Contains-append_left components (length nodes ∷ []) node has) kept.late.items phase_cursors.known

  known-new : (b : Bool) → All (Contains (components ++ length nodes ∷ [])) (late_with b)
  known-new true = known-old
  known-new false = All-push (Contains (components ++ length nodes ∷ [])) kept.late.items (length nodes) known-old (Contains-push components (length nodes))

  abbrev IsWaiting : ℕ → Type 0
  IsWaiting node = not (had_call called node) ≡ (is_after (order_of kept.direction) more kept.last node || list_any (λ late. late == node) (late_with after))

  waiting-old : (node : ℕ) → node < length nodes → not (had_call called node) ≡ waits nodes kept node → IsWaiting node
  waiting-old node lt is = is ∙ sym (waits-more x phase_cursors node lt) ∙ ap (λ b. is_after (order_of kept.direction) more kept.last node || b) (sym (any-same after node lt))

  waiting-new : All IsWaiting (components ++ length nodes ∷ [])
  waiting-new = All-push IsWaiting components (length nodes) (λ k d lt. waiting-old _ (phase_cursors.within k d lt) (phase_cursors.waiting k d lt)) (ap not (fresh called (length nodes) phase_cursors.called_within) ∙ sym (waits-new after refl))

  pub phase_cursor-made : ArePhaseCursor going more (components ++ length nodes ∷ []) called new
  phase_cursor-made = record {
    direction = rw made.direction phase_cursors.direction;
    waiting = rw (made.direction, made.last, made.late) waiting-new;
    behind = rw (made.direction, made.last, made.late) (behind-new after refl);
    known = rw made.late (known-new after);
    last = rw made.last (last-more x phase_cursors kept.last phase_cursors.last);
    within = All-push (λ n. n < length more) components (length nodes) (λ k d lt. omega (arith, longer x phase_cursors, phase_cursors.within k d lt)) (omega (arith, longer x phase_cursors));
    called_within = λ k d lt. omega (arith, longer x phase_cursors, phase_cursors.called_within k d lt);
  }

-- a total order of the nodes
less : (o : Ordering) → is_lt o ≡ true → o ≡ Less
less Less is = refl
less Equal is = cc
less Greater is = cc

not-itself : (o : Ordering) → o ≡ ordering_reverse o → is_lt o ≡ false
not-itself Less e = cc
not-itself Equal e = refl
not-itself Greater e = refl

neither : (a b : Ordering) → a ≡ ordering_reverse b → is_lt a ≡ false → is_lt b ≡ false → a ≡ Equal
neither Less b e low high = cc
neither Equal b e low high = refl
neither Greater Less e low high = cc
neither Greater Equal e low high = cc
neither Greater Greater e low high = cc

there-is : (nodes : List Node) (k : ℕ) → k < length nodes → is_some (slice_get nodes k) ≡ true
there-is [] k lt = absurd (omega arith)
there-is (x ∷ nodes) zero lt = refl
there-is (x ∷ nodes) (suc k) lt = there-is nodes k (omega arith)

module _ (order : PathOrder) (nodes : List Node) (orders : OrdersNodes nodes (node_cmp order nodes)) where
  abbrev cmp : ℕ → ℕ → Ordering
  cmp = node_cmp order nodes

  abbrev before : ℕ → ℕ → Bool
  before = is_before order nodes

  pub never-itself : (n : ℕ) → before n n ≡ false
  never-itself n = not-itself (cmp n n) (orders.total.antisymm n n)

  pub chain : (a b c : ℕ) → before a b ≡ true → before b c ≡ true → before a c ≡ true
  chain a b c first second = ap is_lt (orders.total.trans a b c (less (cmp a b) first) (less (cmp b c) second))

  pub other-way : (m n : ℕ) → m < length nodes → n < length nodes → (m ≡ n → ⊥) → before m n ≡ false → before n m ≡ true
  other-way m n here there other first = by (before n m) refl
    where
      by : (b : Bool) → before n m ≡ b → before n m ≡ true
      by true is = is
      by false is = absurd (other (orders.apart m n here there (neither (cmp m n) (cmp n m) (orders.total.antisymm m n) first is)))

  -- what does not come after another comes before all that do
  pub lower : (m low n : ℕ) → before m low ≡ false → before m n ≡ true → before low n ≡ true
  lower m low n not_after after = by (cmp m low) refl
    where
      by : (o : Ordering) → cmp m low ≡ o → before low n ≡ true
      by Less is = absurd (let f : is_lt (cmp m low) ≡ true = ap is_lt is in cc)
      by Equal is = ap is_lt (sym (orders.total.congr m low n is)) ∙ after
      by Greater is = chain low m n (ap is_lt (orders.total.antisymm low m ∙ ap ordering_reverse is)) after

  pub after-is : (m n : ℕ) → m < length nodes → is_after order nodes (Some m) n ≡ before m n
  after-is m n lt = ap (λ b. b && before m n) (there-is nodes m lt)

-- what holds of all that pass a test
all-passing : (p : ℕ → Bool) (P : ℕ → Type 0) (xs : List ℕ) → All P (filter p xs) → All (λ x. p x ≡ true → P x) xs
all-passing p P [] all = All-nil (λ x. p x ≡ true → P x)
all-passing p P (x ∷ xs) all = by (p x) refl (all-passing p P xs)
  where
    by : (b : Bool) → p x ≡ b → (All P (filter p xs) → All (λ x. p x ≡ true → P x) xs) → All (λ x. p x ≡ true → P x) (x ∷ xs)
    by true is rest = let both : All P (x ∷ filter p xs) = rw is at all in All-cons (λ x. p x ≡ true → P x) x xs (λ _. All-head P x (filter p xs) both) (rest (All-tail P x (filter p xs) both))
    by false is rest = let others : All P (filter p xs) = rw is at all in All-cons (λ x. p x ≡ true → P x) x xs (λ passes. absurd (let f = is in cc)) (rest others)

pub or-false : (b : Bool) → (b || false) ≡ b
or-false true = refl
or-false false = refl

same-node : (m n : ℕ) → (m == n) ≡ true → m ≡ n
same-node m n is = eqb-true m n is

-- the component whose turn it was had its call
module _ {going : List Phase} {nodes : List Node} {components called : List ℕ} {kept new : PhaseCursor} (node : ℕ) (phase_cursors : ArePhaseCursor going nodes components called kept) (heard : IsHeardIn node kept new)
    (orders : OrdersNodes nodes (node_cmp (order_of kept.direction) nodes)) (turn : IsLeast (is_before (order_of kept.direction) nodes) (filter (λ n. not (had_call called n)) components) (Some node)) where
  abbrev order : PathOrder
  order = order_of kept.direction

  abbrev comes : ℕ → ℕ → Bool
  comes = is_before order nodes

  abbrev uncalled : ℕ → Bool
  uncalled n = not (had_call called n)

  held : Contains components node
  held = All-contains (Contains components) (filter uncalled components) node (All-filter uncalled (Contains components) components (All-contains_itself components)) turn.member

  waited : (c : ℕ) → Contains components c → uncalled c ≡ waits nodes kept c
  waited c has = All-contains (λ n. uncalled n ≡ waits nodes kept n) components c phase_cursors.waiting has

  waits-now : waits nodes kept node ≡ true
  waits-now = sym (waited node held) ∙ All-contains (λ n. uncalled n ≡ true) (filter uncalled components) node (filter_passes uncalled components) turn.member

  lowest : (c : ℕ) → Contains components c → waits nodes kept c ≡ true → comes c node ≡ false
  lowest c has waits_too = All-contains (λ n. uncalled n ≡ true → comes n node ≡ false) components c (all-passing uncalled (λ n. comes n node ≡ false) components turn.first) has (waited c has ∙ waits_too)

  inside : (c : ℕ) → Contains components c → c < length nodes
  inside c has = All-contains (λ n. n < length nodes) components c phase_cursors.within has

  -- where none is late it is the last now
  module _ (none : kept.late.items ≡ []) where
    by-last : (c : ℕ) → waits nodes kept c ≡ is_after order nodes kept.last c
    by-last c = rw none (or-false (is_after order nodes kept.last c))

    -- who had a call does not come after it
    passed : (c : ℕ) (last : Option ℕ) → kept.last ≡ last → Contains components c → waits nodes kept c ≡ false → comes node c ≡ false
    passed c None is has done = absurd (let f : waits nodes kept c ≡ true = by-last c ∙ ap (λ l. is_after order nodes l c) is in cc)
    passed c (Some last) is has done = by (comes node c) refl
      where
        by : (b : Bool) → comes node c ≡ b → comes node c ≡ false
        by false e = e
        by true e =
            let known : last < length nodes = rw is at phase_cursors.last in
            let ordered = after-is order nodes orders last in
            let low : comes last node ≡ true = sym (ordered node known) ∙ ap (λ l. is_after order nodes l node) (sym is) ∙ sym (by-last node) ∙ waits-now in
            let high : waits nodes kept c ≡ true = by-last c ∙ ap (λ l. is_after order nodes l c) is ∙ ordered c known ∙ chain order nodes orders last node c low e in
            absurd cc

    waiting-last : (c : ℕ) → Contains components c → not ((node == c) || had_call called c) ≡ (is_after order nodes (Some node) c || false)
    waiting-last c has = by (node == c) (had_call called c) refl refl ∙ sym (after-is order nodes orders node c (inside node held)) ∙ sym (or-false (is_after order nodes (Some node) c))
      where
        by : (same had : Bool) → (node == c) ≡ same → had_call called c ≡ had → not ((node == c) || had_call called c) ≡ comes node c
        by true had is was =
            let one = same-node node c is in
            rw is (subst (λ n. false ≡ comes node n) one (sym (never-itself order nodes orders node)))
        by false true is was = let done : waits nodes kept c ≡ false = sym (waited c has) ∙ ap not was in rw (is, was) (sym (passed c kept.last refl has done))
        by false false is was =
            let waits_too : waits nodes kept c ≡ true = sym (waited c has) ∙ ap not was in
            let other : c ≡ node → ⊥ = λ e. let f : (node == c) ≡ true = (rw e grind (arith, nat_tests)) in cc in
            rw (is, was) (sym (other-way order nodes orders c node (inside c has) (inside node held) other (lowest c has waits_too)))

  -- else it was late
  module _ (first : ℕ) (others : List ℕ) (some : kept.late.items ≡ first ∷ others) where
    late-first : Contains kept.late.items first
    late-first = rw some (Contains-append_left (first ∷ []) others first (Contains-push [] first))

    known-first : Contains components first
    known-first = All-contains (Contains components) kept.late.items first phase_cursors.known late-first

    behind-first : is_after order nodes kept.last first ≡ false
    behind-first = All-contains (λ n. is_after order nodes kept.last n ≡ false) kept.late.items first phase_cursors.behind late-first

    waits-first : waits nodes kept first ≡ true
    waits-first = rw (behind-first, some) (let same : (first == first) ≡ true = grind (arith, nat_tests) in rw same refl)

    was-late : (last : Option ℕ) → kept.last ≡ last → is_after order nodes kept.last node ≡ false
    was-late None is = absurd (let f : is_after order nodes kept.last first ≡ true = ap (λ l. is_after order nodes l first) is in let g = behind-first in cc)
    was-late (Some last) is = by (is_after order nodes kept.last node) refl
      where
        by : (b : Bool) → is_after order nodes kept.last node ≡ b → is_after order nodes kept.last node ≡ false
        by false e = e
        by true e =
            let known : last < length nodes = rw is at phase_cursors.last in
            let ordered = after-is order nodes orders last in
            let above : comes last node ≡ true = sym (ordered node known) ∙ ap (λ l. is_after order nodes l node) (sym is) ∙ e in
            let below : comes last first ≡ false = sym (ordered first known) ∙ ap (λ l. is_after order nodes l first) (sym is) ∙ behind-first in
            let low : comes first node ≡ true = lower order nodes orders last first node below above in
            absurd (let f = lowest first known-first waits-first in cc)

    waiting-late : (c : ℕ) → Contains components c → not ((node == c) || had_call called c) ≡ (is_after order nodes kept.last c || list_any (λ late. late == c) (filter (λ late. not (late == node)) kept.late.items))
    waiting-late c has = by (node == c) refl
      where
        by : (same : Bool) → (node == c) ≡ same → not ((node == c) || had_call called c) ≡ (is_after order nodes kept.last c || list_any (λ late. late == c) (filter (λ late. not (late == node)) kept.late.items))
        by true is =
            let one = same-node node c is in
            let gone = any-filter_same (λ late. late == node) (λ late. not (late == node)) false (λ k e. rw e refl) kept.late.items in
            rw is (subst (λ n. false ≡ (is_after order nodes kept.last n || list_any (λ late. late == n) (filter (λ late. not (late == node)) kept.late.items))) one (rw (was-late kept.last refl, gone) refl))
        by false is =
            let stays = any-filter_same (λ late. late == c) (λ late. not (late == node)) true (λ k e. let other : (k == node) ≡ false = grind (arith, nat_tests) in rw other refl) kept.late.items in
            rw (is, stays) (waited c has)

  heard-by : (late : List ℕ) → kept.late.items ≡ late → ArePhaseCursor going nodes components (node ∷ called) new
  heard-by [] none = record {
    direction = rw heard.direction phase_cursors.direction;
    waiting = rw (heard.direction, heard.last, heard.late, none) (λ k d lt. waiting-last none _ (Contains-get_or components k d lt));
    behind = rw (heard.late, none) (All-nil _);
    known = rw (heard.late, none) (All-nil _);
    last = rw (heard.last, none) (inside node held);
    within = phase_cursors.within;
    called_within = All-cons (λ n. n < length nodes) node called (inside node held) phase_cursors.called_within;
  }
  heard-by (first ∷ others) some =
      let last : new.last ≡ kept.last = heard.last ∙ ap (λ late. last_heard node late kept.last) some in
      record {
        direction = rw heard.direction phase_cursors.direction;
        waiting = rw (heard.direction, last, heard.late) (λ k d lt. waiting-late first others some _ (Contains-get_or components k d lt));
        behind = rw (heard.direction, last, heard.late) (All-filter (λ late. not (late == node)) (λ n. is_after order nodes kept.last n ≡ false) kept.late.items phase_cursors.behind);
        known = rw heard.late (All-filter (λ late. not (late == node)) (Contains components) kept.late.items phase_cursors.known);
        last = rw last phase_cursors.last;
        within = phase_cursors.within;
        called_within = All-cons (λ n. n < length nodes) node called (inside node held) phase_cursors.called_within;
      }

  pub phase_cursor-heard : ArePhaseCursor going nodes components (node ∷ called) new
  phase_cursor-heard = heard-by kept.late.items refl

-- where some are late the last stays
pub last-kept : (node : ℕ) (late : List ℕ) (last : Option ℕ) → false ≡ (length late == 0) → last ≡ last_heard node late last
last-kept node [] last some = cc
last-kept node (first ∷ others) last some = refl
