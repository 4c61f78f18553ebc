-- The drains that a walk begins and ends.
use Rattle.uvm_objection.proofs.Common.{◌≡◌, ◌≢◌, ◌<◌, ◌≤◌, ℕ, zero, suc, ◌+◌, Bool, true, false, ◌&&◌, ◌==◌, nat_lt, List, [], ◌∷◌, map, filter, Option, Some, None, is_some, refl, sym, ap, ◌∙◌, arith, if◌then◌else◌, option_to_list, nat_tests, Change, Release, Entry, Due, Walk, Node, held_of, held_after, held_changed, entry_changed, most_raised, walked, entry_next, walk_next, is_at, node_of}
use Rattle.uvm_objection.proofs.Passed.{AddUp}
use Rattle.uvm_objection.proofs.Trees.{Differs, Distinct, same_node, other_node, true_node}
use Rattle.uvm_objection.proofs.Settling.{Rises, IsSettled, walk_settles, low_at, other, few_after, held_none, held_same}

-- what was held at each
abbrev pub WasHeld : (ℕ → ℕ) → List Entry → Type 0
WasHeld held [] = Unit {0}
WasHeld held (e ∷ newer) = (held e.node ≡ e.held) × WasHeld held newer

held_later : (n : Node) (nodes : List Node) (es : List Entry) → Differs n.node es → WasHeld (λ k. held_of k nodes) es → WasHeld (λ k. held_of k (n ∷ nodes)) es
held_later n nodes [] apart held = tt
held_later n nodes (e ∷ newer) apart held =
    let differ : n.node ≢ e.node = λ h. apart.0 (sym h) in
    (rw (other_node n.node e.node differ) held.0, held_later n nodes newer apart.1 held.1)

pub was_held : (es : List Entry) → Distinct es → WasHeld (λ k. held_of k (map node_of es)) es
was_held [] apart = tt
was_held (e ∷ newer) apart = (rw (same_node e.node) refl, held_later (node_of e) (map node_of newer) newer apart.0 (was_held newer apart.1))

-- one more that passes a test, or does not
filter_cons : {A : Type 0} (f : Node → A) (p : Node → Bool) (x : Node) (xs : List Node) (b : Bool) → p x ≡ b → map f (filter p (x ∷ xs)) ≡ (if b then f x ∷ map f (filter p xs) else map f (filter p xs))
filter_cons f p x xs true is = rw is refl
filter_cons f p x xs false is = rw is refl

one_option : {A : Type 0} (b : Bool) (x : A) (o : Option A) (l : List A) → l ≡ option_to_list o → (b ≡ true → o ≡ None) → (if b then x ∷ l else l) ≡ option_to_list (if b then Some x else o)
one_option true x o l is none = ap (λ r. x ∷ r) (is ∙ ap option_to_list (none refl))
one_option false x o l is none = is

-- nothing is there yet where it would count for something
none_yet : {A : Type 0} (o : Option A) (n : ℕ) → (is_some o ≡ true → 0 < n) → n ≡ 0 → o ≡ None
none_yet None n counts none = refl
none_yet (Some x) n counts none = let some = counts refl in absurd (omega (arith, some, none))

counts_on : {A : Type 0} (b : Bool) (x : A) (o : Option A) (n m : ℕ) → (is_some o ≡ true → 0 < n) → n ≤ m → (b ≡ true → 0 < m) → is_some (if b then Some x else o) ≡ true → 0 < m
counts_on true x o n m counts less new some = new refl
counts_on false x o n m counts less new some = let now = counts some in omega (arith, now, less)

not_both : (h : ℕ) → (nat_lt 0 h && (h == 0)) ≡ false
not_both h = grind (arith, nat_tests)

not_either : (h : ℕ) → ((h == 0) && nat_lt 0 h) ≡ false
not_either h = grind (arith, nat_tests)

begun_holds : (h g : ℕ) → ((h == 0) && nat_lt 0 g) ≡ true → 0 < g
begun_holds h g new = grind (arith, nat_tests)

ended_held : (h g : ℕ) → (nat_lt 0 h && (g == 0)) ≡ true → 0 < h
ended_held h g new = grind (arith, nat_tests)

-- a drain begins where nothing goes up any more
none_after : (t r a d h : ℕ) → 0 < held_after t (r + a) d h → a ≡ 0
none_after t r zero d h some = refl
none_after t r (suc a) d h some = let none = held_none t (r + suc a) d h (omega arith) in absurd (omega (arith, some, none))

abbrev pub has_begun : (ℕ → ℕ) → Node → Bool
has_begun held n = (held n.node == 0) && nat_lt 0 n.held

abbrev pub has_ended : (ℕ → ℕ) → Node → Bool
has_ended held n = nat_lt 0 (held n.node) && (n.held == 0)

abbrev pub due_at : Node → Due
due_at n = record { node = n.node; at = n.due }

-- no drain begins where the total does not fall to zero, and none ends where it does not grow and nothing is let go
none_begins : (t s d h f : ℕ) → f ≡ h → (s ≡ 0 → t ≡ 0) → ((h == 0) && nat_lt 0 (held_after t s d f)) ≡ false
none_begins t zero d h f stays none = rw (none refl, held_same 0 d f (λ some. absurd (omega arith)), stays) (not_either h)
none_begins t (suc s) d h f stays none = rw (held_none t (suc s) d f (omega arith)) (grind (arith, nat_tests))

none_ends : (t s d h f : ℕ) → f ≡ h → (0 < t → h ≡ 0) → s ≤ t → (nat_lt 0 h && (held_after t s d f == 0)) ≡ false
none_ends t s d zero f stays good low = refl
none_ends zero zero d (suc h) f stays good low = rw (held_same 0 d f (λ some. absurd (omega arith)), stays) (not_both (suc h))
none_ends zero (suc s) d (suc h) f stays good low = absurd (omega arith)
none_ends (suc t) s d (suc h) f stays good low = let none = good (omega arith) in absurd (omega (arith, none))

-- what is let go at a node with no total is gone
let_go : (t s d h : ℕ) → (0 < t → h ≡ 0) → 0 < h → (nat_lt 0 h && (held_after t s d 0 == 0)) ≡ true
let_go zero s d h good some = grind (arith, nat_tests)
let_go (suc t) s d h good some = let none = good (omega arith) in absurd (omega (arith, none))

-- a change raises nothing, and lets nothing go
abbrev pub Falls : Change → Type 0
Falls c = (most_raised c.kind ≡ 0) × ((b : Bool) (n : ℕ) → (if b then held_changed c.kind n else n) ≡ n)

-- what the walk of a change tells of drains, where some entries are now others: those that began and ended, and which its kind
-- rules out
pub record IsTold (c : Change) (held : ℕ → ℕ) (w : Walk) (was ys : List Entry) : Type 0 where
  pub began : map due_at (filter (has_begun held) (map node_of ys)) ≡ option_to_list w.began
  pub ended : map (λ n. n.node) (filter (has_ended held) (map node_of ys)) ≡ option_to_list w.ended
  pub rises : Rises c → w.began ≡ None
  pub falls : Falls c → w.ended ≡ None
  pub releases : c.kind ≡ Release → 0 < held_of c.node (map node_of was) → w.ended ≡ Some c.node
  after : is_some w.began ≡ true → 0 < w.after
  before : is_some w.ended ≡ true → 0 < w.before

module _ (c : Change) (held : ℕ → ℕ) (w : Walk) (e : Entry) (newer ys : List Entry) (settled : IsSettled c w newer ys) (apart : Distinct (e ∷ newer)) (kept : AddUp (e ∷ newer)) (was : held e.node ≡ e.held) (so_far : IsTold c held w newer ys) where
  low : is_at w e ≡ true → w.before ≤ e.total
  low at = let less = low_at c w e newer ys settled apart kept at in let is = kept.0 in omega (arith, less, is)

  at_node : (e.node == c.node) ≡ true → (c.node == e.node) ≡ true
  at_node here = ap (λ k. k == e.node) (sym (true_node e.node c.node here)) ∙ same_node e.node

  -- what is found at the node of the change, here or among those before
  found : (b : Bool) → (e.node == c.node) ≡ b → held_of c.node (map node_of (e ∷ newer)) ≡ (if b then e.held else held_of c.node (map node_of newer))
  found true here = rw here refl
  found false here = rw here refl

  told_here : (b : Bool) → is_at w e ≡ b → IsTold c held (if b then walk_next w e (entry_next c w e) else w) (e ∷ newer) ((if b then entry_next c w e else e) ∷ ys)
  told_here true at =
      let g = entry_next c w e in
      let n = node_of g in
      let begun = (e.held == 0) && nat_lt 0 g.held in
      let ends = nat_lt 0 e.held && (g.held == 0) in
      let less = low at in
      let few = rw at at (few_after c w e newer ys settled apart kept) in
      record {
        began =
            filter_cons due_at (has_begun held) n (map node_of ys) begun (ap (λ h. (h == 0) && nat_lt 0 g.held) was)
            ∙ one_option begun (due_at n) w.began _ so_far.began (λ new. none_yet w.began w.after so_far.after (none_after e.total _ w.after _ _ (begun_holds e.held g.held new)));
        ended =
            filter_cons (λ m. m.node) (has_ended held) n (map node_of ys) ends (ap (λ h. nat_lt 0 h && (g.held == 0)) was)
            ∙ one_option ends e.node w.ended _ so_far.ended (λ new. none_yet w.ended w.before so_far.before (nothing_up e.total e.held w.before kept.1 less (ended_held e.held g.held new)));
        rises = λ rises. rw (none_begins e.total g.total _ e.held _ (rises (c.node == e.node) e.held).1 (few.1 rises)) (so_far.rises rises);
        falls = λ falls. let more = falls.0 in let most = few.0 in rw (none_ends e.total g.total _ e.held _ (falls.1 (c.node == e.node) e.held) kept.1 (omega (arith, more, most))) (so_far.falls falls);
        releases = λ release some. release_ends (e.node == c.node) refl release some;
        after = counts_on begun (due_at n) w.began w.after (g.total + g.held) so_far.after (omega arith) (λ new. let some = begun_holds e.held g.held new in omega (arith, some));
        before = counts_on ends e.node w.ended w.before (e.total + e.held) so_far.before (omega (arith, less)) (λ new. let some = ended_held e.held g.held new in omega (arith, some));
      }
    where
      nothing_up : (t h b : ℕ) → (0 < t → h ≡ 0) → b ≤ t → 0 < h → b ≡ 0
      nothing_up zero h b none less some = omega arith
      nothing_up (suc t) h b none less some = let is = none (omega arith) in absurd (omega (arith, is, some))

      release_ends : (b : Bool) → (e.node == c.node) ≡ b → c.kind ≡ Release → 0 < held_of c.node (map node_of (e ∷ newer)) → (walk_next w e (entry_next c w e)).ended ≡ Some c.node
      release_ends true here release some =
          let g = entry_next c w e in
          let f = entry_changed c e in
          let there : 0 < e.held = rw (found true here) at some in
          let none : f.held ≡ 0 = ap (λ b. if b then held_changed c.kind e.held else e.held) (at_node here) ∙ ap (λ kind. held_changed kind e.held) release in
          rw (ap (λ h. nat_lt 0 e.held && (held_after e.total g.total f.drain h == 0)) none ∙ let_go e.total g.total f.drain e.held kept.1 there) (ap Some (true_node e.node c.node here))
      release_ends false here release some =
          let is = so_far.releases release (rw (found false here) at some) in
          let up = so_far.before (ap is_some is) in
          let less = low at in
          rw (kept.1 (omega (arith, up, less))) is
  told_here false at = record {
    began = filter_cons due_at (has_begun held) (node_of e) (map node_of ys) false (ap (λ h. (h == 0) && nat_lt 0 e.held) was ∙ not_either e.held) ∙ so_far.began;
    ended = filter_cons (λ m. m.node) (has_ended held) (node_of e) (map node_of ys) false (ap (λ h. nat_lt 0 h && (e.held == 0)) was ∙ not_both e.held) ∙ so_far.ended;
    rises = so_far.rises;
    falls = so_far.falls;
    releases = λ release some. passes_by (e.node == c.node) refl release some;
    after = so_far.after;
    before = so_far.before;
  }
    where
      passes_by : (b : Bool) → (e.node == c.node) ≡ b → c.kind ≡ Release → 0 < held_of c.node (map node_of (e ∷ newer)) → w.ended ≡ Some c.node
      passes_by true here release some = let both : true ≡ false = sym (at_node here) ∙ other c w e newer ys settled apart kept at in cc
      passes_by false here release some = so_far.releases release (rw (found false here) at some)

-- what a walk tells of drains
pub walk_tells : (c : Change) (held : ℕ → ℕ) (es : List Entry) → Distinct es → AddUp es → WasHeld held es → IsTold c held (walked c es).walk es (walked c es).entries
walk_tells c held [] apart kept was = record {
  began = refl;
  ended = refl;
  rises = λ rises. refl;
  falls = λ falls. refl;
  releases = λ release some. absurd (omega (arith, some));
  after = λ some. let no : false ≡ true = some in cc;
  before = λ some. let no : false ≡ true = some in cc;
}
walk_tells c held (e ∷ newer) apart kept was =
    let below = walked c newer in
    told_here c held below.walk e newer below.entries (walk_settles c newer apart.1 kept.3) apart kept was.0 (walk_tells c held newer apart.1 kept.3 was.1) (is_at below.walk e) refl
