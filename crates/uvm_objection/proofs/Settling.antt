-- A walk settles the totals.
use Rattle.uvm_objection.proofs.Common.{◌≡◌, ◌≢◌, ◌<◌, ◌≤◌, ℕ, zero, suc, ◌+◌, ◌-◌, ◌^◌, ◌⊎◌, inl, inr, Bool, true, false, ◌==◌, nat_lt, List, [], ◌∷◌, map, Option, Some, None, refl, sym, ap, ◌∙◌, subst, arith, if◌then◌else◌, nat_tests, option_map_or, Change, ChangeKind, Raise, Drop, Release, SetDrain, Entry, Walk, Node, total, settled, settled_node, held_after, due_after, begins, source_changed, held_changed, due_changed, drain_changed, entry_changed, most_raised, IsWithin, start_of, walked, entry_after, entry_next, walk_after, walk_next, entry_settled, is_at, is_at_node, CanStep, CanWalk, node_of, Fits, shape}
use Rattle.uvm_objection.proofs.Passed.{passed, when, AddUp}
use Rattle.uvm_objection.proofs.Trees.{Differs, Distinct, Under, other_node, true_node}
use Rattle.uvm_objection.proofs.Sums.{agree, first_total}

-- what a change leaves of the numbers of an entry
source_low : (b : Bool) (kind : ChangeKind) (n : ℕ) → (if b then source_changed kind n else n) ≤ n + most_raised kind
source_low true (Raise count) n = omega arith
source_low true (Drop count) n = omega arith
source_low true Release n = omega arith
source_low true (SetDrain drain) n = omega arith
source_low false kind n = omega arith

held_low : (b : Bool) (kind : ChangeKind) (n : ℕ) → (if b then held_changed kind n else n) ≤ n
held_low true (Raise count) n = omega arith
held_low true (Drop count) n = omega arith
held_low true Release n = omega arith
held_low true (SetDrain drain) n = omega arith
held_low false kind n = omega arith

drain_low : (b : Bool) (kind : ChangeKind) (t n : ℕ) → IsWithin kind t → n ≤ 10 ^ 15 → (if b then drain_changed kind n else n) ≤ 10 ^ 15
drain_low true (Raise count) t n within low = low
drain_low true (Drop count) t n within low = low
drain_low true Release t n within low = low
drain_low true (SetDrain drain) t n within low = within
drain_low false kind t n within low = low

same_entry : (c : Change) (e : Entry) → (c.node == e.node) ≡ false → entry_changed c e ≡ e
same_entry c e other = rw other refl

-- a change lets no source fall, and holds nothing less
abbrev pub Rises : Change → Type 0
Rises c = (b : Bool) (n : ℕ) → (n ≤ (if b then source_changed c.kind n else n)) × ((if b then held_changed c.kind n else n) ≡ n)

-- what a walk brings to a node
record Carried (w : Walk) (was entries : List Entry) (k : ℕ) : Type 0 where
  sum : passed entries k + when (is_at_node w k) w.before ≡ passed was k + when (is_at_node w k) w.after
  low : when (is_at_node w k) w.before ≤ passed was k

-- the totals before
abbrev pub Before : (ℕ → ℕ) → List Entry → Type 0
Before before [] = Unit {0}
Before before (e ∷ newer) = (before e.node ≡ e.total) × Before before newer

-- what holds after a walk over some entries, which are now others
pub record IsSettled (c : Change) (w : Walk) (was entries : List Entry) : Type 0 where
  carried : (k : ℕ) → Differs k was → Carried w was entries k
  waits : Differs c.node was → w ≡ start_of c
  near : w.after ≤ w.before + most_raised c.kind
  rises : Rises c → w.after ≡ 0 → w.before ≡ 0
  pub kept : AddUp entries
  apart : (k : ℕ) → Differs k was → Differs k entries
  pub distinct : Distinct entries
  pub places : shape entries ≡ shape was
  pub fits : (t : ℕ) → IsWithin c.kind t → (m : ℕ) → m + most_raised c.kind ≤ 10 ^ 18 → Under m was → Fits was → Fits entries
  pub nodes : (before : ℕ → ℕ) (time : ℕ) → (time ≡ c.time) ⊎ Rises c → Before before was → map node_of entries ≡ settled time before (map node_of (map (entry_changed c) was))

pub positive : (t : ℕ) → 0 < t → nat_lt 0 t ≡ true
positive t h = grind (arith, nat_tests)

begins_same : (t d : ℕ) → begins t t d ≡ false
begins_same t d = grind (arith, nat_tests)

-- nothing changes where the total stays
pub held_same : (t d h : ℕ) → (0 < t → h ≡ 0) → held_after t t d h ≡ h
held_same zero d h good = refl
held_same (suc t) d h good = rw (positive (suc t) (omega arith)) (sym (good (omega arith)))

due_same : (time t d u : ℕ) → (0 < t → u ≡ 0) → due_after time t t d u ≡ u
due_same time zero d u none = refl
due_same time (suc t) d u none = rw (positive (suc t) (omega arith)) (sym (none (omega arith)))

pub entry_same : (time : ℕ) (e : Entry) → (0 < e.total → e.held ≡ 0) → (e.held ≡ 0 → e.due ≡ 0) → entry_settled time e.total e ≡ e
entry_same time e good over =
    ap (λ h. let f : Entry = record e { held = h; due = due_after time e.total e.total e.drain e.due } in f) (held_same e.total e.drain e.held good)
    ∙ ap (λ u. let f : Entry = record e { due = u } in f) (due_same time e.total e.drain e.due (λ some. over (good some)))

-- what has a total holds nothing
pub held_none : (t s d h : ℕ) → 0 < s → held_after t s d h ≡ 0
held_none t s d h some = rw (positive s some) refl

-- nothing is due where nothing is held
over_changed : (b : Bool) (kind : ChangeKind) (h u : ℕ) → (h ≡ 0 → u ≡ 0) → (if b then held_changed kind h else h) ≡ 0 → (if b then due_changed kind u else u) ≡ 0
over_changed true (Raise count) h u over none = over none
over_changed true (Drop count) h u over none = over none
over_changed true Release h u over none = refl
over_changed true (SetDrain drain) h u over none = over none
over_changed false kind h u over none = over none

begins_some : (t s d : ℕ) → begins t s d ≡ true → 0 < t
begins_some t s d is = grind (arith, nat_tests)

over_after : (time t s d h u : ℕ) → (h ≡ 0 → u ≡ 0) → held_after t s d h ≡ 0 → due_after time t s d u ≡ 0
over_after time t s d h u over = by_test (nat_lt 0 s) (begins t s d) (begins_some t s d)
  where
    by_test : (b c : Bool) → (c ≡ true → 0 < t) → (if b then 0 else (if c then t else h)) ≡ 0 → (if b then 0 else (if c then time + d else u)) ≡ 0
    by_test true c some none = refl
    by_test false true some none = let there = some refl in absurd (omega (arith, there, none))
    by_test false false some none = over none

-- no more goes up than came
held_or : (t h : ℕ) (b : Bool) → (if b then t else h) ≤ t + h
held_or t h true = omega arith
held_or t h false = omega arith

near_next : (t s d f h more : ℕ) → s ≤ t + more → f ≤ h → s + held_after t s d f ≤ t + h + more
near_next t zero d f h more low less = let one = held_or t f (begins t 0 d) in omega arith
near_next t (suc s) d f h more low less = rw (held_none t (suc s) d f (omega arith)) (omega arith)

held_fits : (t s d h m : ℕ) → t ≤ m → h ≤ m → held_after t s d h ≤ m
held_fits t s d h m first second = by_test (nat_lt 0 s) (begins t s d)
  where
    by_test : (b c : Bool) → (if b then 0 else (if c then t else h)) ≤ m
    by_test true c = omega arith
    by_test false true = first
    by_test false false = second

-- a drain begins at one time or at another: no matter where none does
no_begin : (t s d : ℕ) → 0 < s → begins t s d ≡ false
no_begin t s d h = grind (arith, nat_tests)

no_begin_of : (t s d : ℕ) → (s ≡ 0 → t ≡ 0) → begins t s d ≡ false
no_begin_of t zero d none = let is = none refl in rw is (begins_same 0 d)
no_begin_of t (suc s) d none = no_begin t (suc s) d (omega arith)

node_timely : (time other t s : ℕ) (n : Node) → (other ≡ time) ⊎ (s ≡ 0 → t ≡ 0) → settled_node time t s n ≡ settled_node other t s n
node_timely time other t s n (inl same) = ap (λ u. settled_node u t s n) (sym same)
node_timely time other t s n (inr none) =
    let no = no_begin_of t s n.drain none in
    ap (λ u. let m : Node = record n { held = held_after t s n.drain n.held; due = u } in m) (rw no refl)

at_other : (o : Option ℕ) (m k : ℕ) → option_map_or (λ at. at == m) o false ≡ true → m ≢ k → option_map_or (λ at. at == k) o false ≡ false
at_other None m k here differ = cc
at_other (Some n) m k here differ = grind (arith, nat_tests)

-- the numbers at a node, whether the walk comes to it or not
few_when : (b : Bool) (p q before after more : ℕ) → q + when b before ≡ p + when b after → after ≤ before + more → q ≤ p + more
few_when true p q before after more sum near = omega arith
few_when false p q before after more sum near = omega arith

none_when : (b : Bool) (p q before after : ℕ) → q + when b before ≡ p + when b after → when b before ≤ p → (after ≡ 0 → before ≡ 0) → q ≡ 0 → p ≡ 0
none_when true p q before after sum low none is =
    let no : after ≡ 0 = omega arith in
    let nor = none no in
    omega arith
none_when false p q before after sum low none is = omega arith

sum_here : (t src px py b a f : ℕ) → t ≡ src + px → b ≤ px → py + b ≡ px + a → t - src - b + f + a ≡ f + py
sum_here t src px py b a f is low sum = omega arith

module _ (c : Change) (w : Walk) (e : Entry) (newer ys : List Entry) (so_far : IsSettled c w newer ys) (apart : Distinct (e ∷ newer)) (was : AddUp (e ∷ newer)) where
  abbrev f : Entry
  f = entry_changed c e

  abbrev own : ℕ
  own = f.source + passed ys e.node

  abbrev settled_here : Entry
  settled_here = entry_settled c.time own f

  abbrev walk_here : Bool → Walk
  walk_here b = if b then walk_next w e settled_here else w

  here : Carried w newer ys e.node
  here = so_far.carried e.node apart.0

  -- before it comes to its node the walk stays as it began
  still : (c.node == e.node) ≡ true → w ≡ start_of c
  still same = let D : ℕ → Type 0 = λ k. Differs k newer in so_far.waits (subst D (sym (true_node c.node e.node same)) apart.0)

  pub other : is_at w e ≡ false → (c.node == e.node) ≡ false
  other away = by_test (c.node == e.node) refl
    where
      by_test : (b : Bool) → (c.node == e.node) ≡ b → b ≡ false
      by_test true same = let there : is_at w e ≡ true = ap (λ v. is_at v e) (still same) ∙ same in let both : true ≡ false = sym there ∙ away in cc
      by_test false same = refl

  pub low_at : is_at w e ≡ true → w.before ≤ passed newer e.node
  low_at at = rw at at here.low

  settles : (b : Bool) → is_at w e ≡ b → (if b then entry_next c w e else e) ≡ settled_here
  settles true at =
      let sum = rw at at here.sum in
      ap (λ t. entry_settled c.time t f) (sum_here e.total e.source (passed newer e.node) (passed ys e.node) w.before w.after f.source was.0 (low_at at) sum)
  settles false at =
      let sum = rw at at here.sum in
      let is = was.0 in
      let total : e.total ≡ e.source + passed ys e.node = omega (arith, is, sum) in
      sym (entry_same c.time e was.1 was.2)
      ∙ ap (λ t. entry_settled c.time t e) total
      ∙ ap (λ g. entry_settled c.time (g.source + passed ys e.node) g) (sym (same_entry c e (other at)))

  -- no total grows by more than what is raised, and where nothing may fall none falls to zero
  few : own ≤ e.total + most_raised c.kind
  few = by_test (c.node == e.node) refl
    where
      by_test : (b : Bool) → (c.node == e.node) ≡ b → own ≤ e.total + most_raised c.kind
      by_test true same =
          let before = ap (λ v. v.before) (still same) in
          let after = ap (λ v. v.after) (still same) in
          let same_sum = few_when (is_at w e) (passed newer e.node) (passed ys e.node) w.before w.after 0 here.sum (omega (arith, before, after)) in
          let source = source_low (c.node == e.node) c.kind e.source in
          let is = was.0 in
          omega (arith, same_sum, source, is)
      by_test false same =
          let sum = few_when (is_at w e) (passed newer e.node) (passed ys e.node) w.before w.after (most_raised c.kind) here.sum so_far.near in
          let source = ap (λ g. g.source) (same_entry c e same) in
          let is = was.0 in
          omega (arith, sum, source, is)

  none : Rises c → own ≡ 0 → e.total ≡ 0
  none rises is =
      let some = (rises (c.node == e.node) e.source).0 in
      let passed_none = none_when (is_at w e) (passed newer e.node) (passed ys e.node) w.before w.after here.sum here.low (so_far.rises rises) (omega (arith, is)) in
      let total = was.0 in
      omega (arith, some, is, passed_none, total)

  near_here : (b : Bool) → (walk_here b).after ≤ (walk_here b).before + most_raised c.kind
  near_here true = near_next e.total own f.drain f.held e.held (most_raised c.kind) few (held_low (c.node == e.node) c.kind e.held)
  near_here false = so_far.near

  rises_here : (b : Bool) → Rises c → (walk_here b).after ≡ 0 → (walk_here b).before ≡ 0
  rises_here true rises is =
      let own_none : own ≡ 0 = omega (arith, is) in
      let total = none rises own_none in
      let held = (rises (c.node == e.node) e.held).1 in
      let stays = ap (λ s. held_after e.total s f.drain f.held) (own_none ∙ sym total) ∙ held_same e.total f.drain f.held (λ some. absurd (omega (arith, some, total))) in
      omega (arith, is, total, held, stays)
  rises_here false rises is = so_far.rises rises is

  waits_here : (b : Bool) → is_at w e ≡ b → Differs c.node (e ∷ newer) → walk_here b ≡ start_of c
  waits_here true at differ =
      let no : (c.node == e.node) ≡ false = other_node c.node e.node (λ same. differ.0 (sym same)) in
      let both : true ≡ false = sym at ∙ ap (λ v. is_at v e) (so_far.waits differ.1) ∙ no in
      cc
  waits_here false at differ = so_far.waits differ.1

  carried_here : (b : Bool) → is_at w e ≡ b → (k : ℕ) → Differs k (e ∷ newer) → Carried (walk_here b) (e ∷ newer) (settled_here ∷ ys) k
  carried_here true at k differ =
      let so = so_far.carried k differ.1 in
      let not : is_at_node w k ≡ false = at_other w.at e.node k at differ.0 in
      let sum = rw not at so.sum in
      record { sum = omega arith; low = omega arith }
  carried_here false at k differ =
      let so = so_far.carried k differ.1 in
      let sum = so.sum in
      let low = so.low in
      let C : Entry → Type 0 = λ g. Carried w (e ∷ newer) (g ∷ ys) k in
      subst C (settles false at) (record { sum = omega arith; low = omega arith })

  nodes_here : (before : ℕ → ℕ) (time : ℕ) → (time ≡ c.time) ⊎ Rises c → Before before (e ∷ newer) → map node_of (settled_here ∷ ys) ≡ settled time before (map node_of (map (entry_changed c) (e ∷ newer)))
  nodes_here before time timely were =
      let n = node_of f in
      let above = map node_of ys in
      let late : (time ≡ c.time) ⊎ (own ≡ 0 → e.total ≡ 0) = elim timely [ inl same ↦ inl same | inr rises ↦ inr (none rises) ] in
      ap (λ m. m ∷ above) (node_timely c.time time e.total own n late)
      ∙ ap (λ t. settled_node time t own n ∷ above) (sym were.0)
      ∙ ap (λ t. settled_node time (before e.node) t n ∷ above) (sym (first_total f ys (agree ys so_far.distinct so_far.kept)))
      ∙ ap (λ ns. settled_node time (before e.node) (total (n ∷ ns) e.node) n ∷ ns) (so_far.nodes before time timely were.1)

  settled_at : (b : Bool) → is_at w e ≡ b → IsSettled c (walk_here b) (e ∷ newer) (settled_here ∷ ys)
  settled_at b at = record {
    carried = carried_here b at;
    waits = waits_here b at;
    near = near_here b;
    rises = rises_here b;
    kept = (refl, held_none e.total own f.drain f.held, over_after c.time e.total own f.drain f.held f.due (over_changed (c.node == e.node) c.kind e.held e.due was.2), so_far.kept);
    apart = λ k differ. (differ.0, so_far.apart k differ.1);
    distinct = (so_far.apart e.node apart.0, so_far.distinct);
    places = ap (λ ps. (e.node, e.parent) ∷ ps) so_far.places;
    fits = λ t within m limit under fits.
        let low = under.0 in
        let less = few in
        let held = held_low (c.node == e.node) c.kind e.held in
        let held_fit = fits.1 in
        (omega (arith, less, low, limit), held_fits e.total own f.drain f.held (10 ^ 18) fits.0 (omega (arith, held, held_fit)), drain_low (c.node == e.node) c.kind t e.drain within fits.2, so_far.fits t within m limit under.1 fits.3);
    nodes = nodes_here;
  }

  pub step_settled : IsSettled c (walk_after c w e) (e ∷ newer) (entry_after c w e ∷ ys)
  step_settled =
      let is : settled_here ≡ entry_after c w e = sym (settles (is_at w e) refl) in
      let S : Entry → Type 0 = λ g. IsSettled c (if is_at w e then walk_next w e g else w) (e ∷ newer) (g ∷ ys) in
      let walk : walk_after c w e ≡ (if is_at w e then walk_next w e (entry_after c w e) else w) = same_walk (is_at w e) in
      let W : Walk → Type 0 = λ v. IsSettled c v (e ∷ newer) (entry_after c w e ∷ ys) in
      subst W (sym walk) (subst S is (settled_at (is_at w e) refl))
    where
      same_walk : (b : Bool) → (if b then walk_next w e (entry_next c w e) else w) ≡ (if b then walk_next w e (if b then entry_next c w e else e) else w)
      same_walk true = refl
      same_walk false = refl

  -- its total grows by no more than what is raised, and where nothing may fall it does not fall to zero
  pub few_after : let g : Entry = entry_after c w e in (g.total ≤ e.total + most_raised c.kind) × (Rises c → g.total ≡ 0 → e.total ≡ 0)
  few_after = let P : Entry → Type 0 = λ g. (g.total ≤ e.total + most_raised c.kind) × (Rises c → g.total ≡ 0 → e.total ≡ 0) in subst P (sym (settles (is_at w e) refl)) (few, none)

  -- the numbers of the step fit
  pub can_here : (t : ℕ) → IsWithin c.kind t → (m : ℕ) → m + most_raised c.kind ≤ 10 ^ 18 → Under m (e ∷ newer) → Fits (e ∷ newer) → c.time ≤ 10 ^ 18 → is_at w e ≡ true → CanStep c w e
  can_here t within m limit under fits early at =
      let low = low_at at in
      let near = so_far.near in
      let total = was.0 in
      let total_fits = fits.0 in
      let source = source_low (c.node == e.node) c.kind e.source in
      let held_is = fits.1 in
      let drain = drain_low (c.node == e.node) c.kind t e.drain within fits.2 in
      let next : entry_next c w e ≡ settled_here = settles true at in
      let up = near_next e.total own f.drain f.held e.held (most_raised c.kind) few (held_low (c.node == e.node) c.kind e.held) in
      let Low : Entry → Type 0 = λ g. g.total + g.held < 2 ^ 64 in
      record {
        before = omega (arith, low, total);
        total = total_fits;
        held = held_is;
        source = omega (arith, source, total, total_fits, limit);
        after = omega (arith, near, limit);
        due = omega (arith, early, drain);
        next = subst Low (sym next) (omega (arith, up, total_fits, held_is, limit));
      }

-- after a walk all is settled
pub walk_settles : (c : Change) (es : List Entry) → Distinct es → AddUp es → IsSettled c (walked c es).walk es (walked c es).entries
walk_settles c [] apart was = record {
  carried = λ k differ. record { sum = omega arith; low = none_low (is_at_node (start_of c) k) };
  waits = λ differ. refl;
  near = omega arith;
  rises = λ rises is. refl;
  kept = tt;
  apart = λ k differ. tt;
  distinct = tt;
  places = refl;
  fits = λ t within m limit under fits. tt;
  nodes = λ before time timely were. refl;
}
  where
    none_low : (b : Bool) → when b 0 ≤ 0
    none_low true = omega arith
    none_low false = omega arith
walk_settles c (e ∷ newer) apart was =
    step_settled c (walked c newer).walk e newer (walked c newer).entries (walk_settles c newer apart.1 was.3) apart was

-- and its numbers fit
pub walk_can : (c : Change) (es : List Entry) → Distinct es → AddUp es → (t : ℕ) → IsWithin c.kind t → (m : ℕ) → m + most_raised c.kind ≤ 10 ^ 18 → Under m es → Fits es → c.time ≤ 10 ^ 18 → CanWalk c es
walk_can c [] apart was t within m limit under fits early = tt
walk_can c (e ∷ newer) apart was t within m limit under fits early = (
  walk_can c newer apart.1 was.3 t within m limit under.1 fits.3 early,
  can_here c (walked c newer).walk e newer (walked c newer).entries (walk_settles c newer apart.1 was.3) apart was t within m limit under fits early,
)
