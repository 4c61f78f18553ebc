-- What is kept goes through a change.
use Rattle.uvm_objection.proofs.Common.{◌≡◌, ◌<◌, ◌≤◌, ℕ, ◌+◌, ◌^◌, ◌⊎◌, inl, inr, Bool, true, false, ◌==◌, List, [], ◌∷◌, map, drop, nat_eq, Option, refl, sym, ap, ◌∙◌, subst, arith, if◌then◌else◌, option_to_list, get, Entry, Change, ChangeKind, Raise, Drop, Release, SetDrain, Walk, Inside, Node, held_of, due_of, changed_at, total, settled, settled_node, drains_begun, drains_ended, IsTree, AreNodes, source_changed, held_changed, due_changed, drain_changed, entry_changed, node_changed, nodes_changed, most_raised, IsWithin, IsTimely, IsSteady, TellsOf, walked, CanWalk, node_of, IsConsistent, Fits, IsObjection, shape, place_in}
use Rattle.uvm_objection.proofs.Passed.{is_under, passed, when, AddUp}
use Rattle.uvm_objection.proofs.Trees.{Differs, Distinct, distinct_of, Under, under_top, true_node}
use Rattle.uvm_objection.proofs.Sums.{Agree, agree, first_total, add_up, kept_of}
use Rattle.uvm_objection.proofs.Settling.{Rises, Before, IsSettled, walk_settles, walk_can, entry_same}
use Rattle.uvm_objection.proofs.Drains.{IsTold, was_held, walk_tells}

abbrev pub entries_of : Inside → List Entry
entries_of o = o.top ∷ o.entries.items

abbrev pub nodes_of : Inside → List Node
nodes_of o = map node_of (entries_of o)

-- the nodes of the entries with a change
one_changed : (b : Bool) (kind : ChangeKind) (e : Entry) → let f : Entry = record e { source = if b then source_changed kind e.source else e.source; held = if b then held_changed kind e.held else e.held; due = if b then due_changed kind e.due else e.due; drain = if b then drain_changed kind e.drain else e.drain } in node_of f ≡ (if b then node_changed kind (node_of e) else node_of e)
one_changed true (Raise count) e = refl
one_changed true (Drop count) e = refl
one_changed true Release e = refl
one_changed true (SetDrain drain) e = refl
one_changed false kind e = refl

pub map_changed : (c : Change) (es : List Entry) → map node_of (map (entry_changed c) es) ≡ nodes_changed c.node c.kind (map node_of es)
map_changed c [] = refl
map_changed c (e ∷ newer) =
    ap (λ n. n ∷ map node_of (map (entry_changed c) newer)) (one_changed (c.node == e.node) c.kind e)
    ∙ ap (λ ns. (let n : Node = if c.node == e.node then node_changed c.kind (node_of e) else node_of e in n) ∷ ns) (map_changed c newer)

-- a node with a positive total holds nothing
holds_test : (node : ℕ) (e : Entry) (newer : List Entry) (b : Bool) → (e.node == node) ≡ b → Agree (map node_of newer) newer → AddUp (e ∷ newer) → 0 < total (map node_of (e ∷ newer)) node → (0 < total (map node_of newer) node → held_of node (map node_of newer) ≡ 0) → held_of node (map node_of (e ∷ newer)) ≡ 0
holds_test node e newer true here agrees kept some rest =
    let own = ap (total (map node_of (e ∷ newer))) (sym (true_node e.node node here)) ∙ first_total e newer agrees ∙ sym kept.0 in
    let Some : ℕ → Type 0 = λ t. 0 < t in
    rw here (kept.1 (subst Some own some))
holds_test node e newer false here agrees kept some rest = let later = rw here at some in rw here (rest later)

pub holds_nothing : (node : ℕ) (es : List Entry) → Distinct es → AddUp es → 0 < total (map node_of es) node → held_of node (map node_of es) ≡ 0
holds_nothing node [] apart kept some = refl
holds_nothing node (e ∷ newer) apart kept some =
    holds_test node e newer (e.node == node) refl (agree newer apart.1 kept.3) kept some (holds_nothing node newer apart.1 kept.3)

-- and nothing is due where nothing is held
over_test : (node : ℕ) (e : Entry) (newer : List Entry) (b : Bool) → (e.node == node) ≡ b → AddUp (e ∷ newer) → held_of node (map node_of (e ∷ newer)) ≡ 0 → (held_of node (map node_of newer) ≡ 0 → due_of node (map node_of newer) ≡ 0) → due_of node (map node_of (e ∷ newer)) ≡ 0
over_test node e newer true here kept none rest = let own = rw here at none in rw here (kept.2 own)
over_test node e newer false here kept none rest = let later = rw here at none in rw here (rest later)

pub nothing_due : (node : ℕ) (es : List Entry) → AddUp es → held_of node (map node_of es) ≡ 0 → due_of node (map node_of es) ≡ 0
nothing_due node [] kept none = refl
nothing_due node (e ∷ newer) kept none = over_test node e newer (e.node == node) refl kept none (nothing_due node newer kept.3)

pub are_nodes : (o : Inside) → IsObjection o → AreNodes (nodes_of o)
are_nodes o keeps = record {
  tree = keeps.tree;
  positive = λ node some. let apart = distinct_of (entries_of o) keeps.tree in holds_nothing node (entries_of o) apart (add_up (entries_of o) apart keeps.kept) some;
  over = λ node none. nothing_due node (entries_of o) (add_up (entries_of o) (distinct_of (entries_of o) keeps.tree) keeps.kept) none;
}

-- a raise lets nothing fall, so that its time does not matter
raise_rises : (count : ℕ) (b : Bool) (n : ℕ) → (n ≤ (if b then source_changed (Raise count) n else n)) × ((if b then held_changed (Raise count) n else n) ≡ n)
raise_rises count true n = (omega arith, refl)
raise_rises count false n = (omega arith, refl)

pub timely : (node : ℕ) (kind : ChangeKind) (time now : ℕ) → IsTimely kind time now → let c : Change = record { node = node; kind = kind; time = time } in (now ≡ time) ⊎ Rises c
timely node (Raise count) time now is = inr (raise_rises count)
timely node (Drop count) time now is = inl is
timely node Release time now is = inl is
timely node (SetDrain drain) time now is = inl is

pub same_time : (kind : ChangeKind) (time : ℕ) → IsTimely kind time time
same_time (Raise count) time = tt
same_time (Drop count) time = refl
same_time Release time = refl
same_time (SetDrain drain) time = refl

pub before_kept : (nodes : List Node) (es : List Entry) → Agree nodes es → Before (total nodes) es
before_kept nodes [] agree = tt
before_kept nodes (e ∷ newer) agree = (agree.0, before_kept nodes newer agree.1)

-- there is room for what a change raises
room : (kind : ChangeKind) (t : ℕ) → t ≤ 10 ^ 18 → IsWithin kind t → t + most_raised kind ≤ 10 ^ 18
room (Raise count) t low within = within
room (Drop count) t low within = omega arith
room Release t low within = omega arith
room (SetDrain drain) t low within = omega arith

-- a change that changes no total leaves what is settled
steady_one : (b : Bool) (kind : ChangeKind) (n : ℕ) → IsSteady kind → ((if b then source_changed kind n else n) ≡ n) × ((if b then held_changed kind n else n) ≡ n) × ((if b then due_changed kind n else n) ≡ n)
steady_one true (Raise count) n steady = (omega arith, refl, refl)
steady_one true (Drop count) n steady = (omega arith, refl, refl)
steady_one true Release n steady = absurd steady
steady_one true (SetDrain drain) n steady = (refl, refl, refl)
steady_one false kind n steady = (refl, refl, refl)

steady_rises : (node : ℕ) (kind : ChangeKind) (time : ℕ) → IsSteady kind → let c : Change = record { node = node; kind = kind; time = time } in Rises c
steady_rises node kind time steady b n = let same = (steady_one b kind n steady).0 in (omega (arith, same), (steady_one b kind n steady).1)

-- which drains the walk of each kind of change tells of
drop_falls : (count : ℕ) (b : Bool) (n : ℕ) → (if b then held_changed (Drop count) n else n) ≡ n
drop_falls count true n = refl
drop_falls count false n = refl

tells : (node : ℕ) (kind : ChangeKind) (time : ℕ) (held : ℕ → ℕ) (w : Walk) (was ys : List Entry) → IsTold (record { node = node; kind = kind; time = time }) held w was ys → TellsOf kind node (held_of node (map node_of was)) w
tells node (Raise count) time held w was ys told = told.rises (raise_rises count)
tells node (Drop count) time held w was ys told = told.falls (refl, drop_falls count)
tells node Release time held w was ys told = told.releases refl
tells node (SetDrain drain) time held w was ys told = (told.rises (steady_rises node (SetDrain drain) time tt), told.falls (refl, λ b n. (steady_one b (SetDrain drain) n tt).1))

-- a change that changes nothing at any node
changed_same : (node : ℕ) (change : Node → Node) (nodes : List Node) → ((e : Node) → change e ≡ e) → changed_at node change nodes ≡ nodes
changed_same node change [] same = refl
changed_same node change (e ∷ newer) same = ap (λ n. n ∷ changed_at node change newer) (one (node == e.node)) ∙ ap (λ ns. e ∷ ns) (changed_same node change newer same)
  where
    one : (b : Bool) → (if b then change e else e) ≡ e
    one true = same e
    one false = refl

pub none_raised : (node count : ℕ) (nodes : List Node) → count ≡ 0 → nodes_changed node (Raise count) nodes ≡ nodes
none_raised node count nodes none = changed_same node (node_changed (Raise count)) nodes (λ e. ap (λ n. let f : Node = record e { source = n } in f) (omega arith))

pub none_dropped : (node count : ℕ) (nodes : List Node) → count ≡ 0 → nodes_changed node (Drop count) nodes ≡ nodes
none_dropped node count nodes none = changed_same node (node_changed (Drop count)) nodes (λ e. ap (λ n. let f : Node = record e { source = n } in f) (omega arith))

passed_changed : (c : Change) → IsSteady c.kind → (es : List Entry) (k : ℕ) → passed (map (entry_changed c) es) k ≡ passed es k
passed_changed c steady [] k = refl
passed_changed c steady (e ∷ newer) k =
    ap (λ h. when (is_under e k) (e.total + h) + passed (map (entry_changed c) newer) k) (steady_one (c.node == e.node) c.kind e.held steady).1
    ∙ ap (λ n. when (is_under e k) (e.total + e.held) + n) (passed_changed c steady newer k)

kept_changed : (c : Change) → IsSteady c.kind → (es : List Entry) → AddUp es → AddUp (map (entry_changed c) es)
kept_changed c steady [] kept = tt
kept_changed c steady (e ∷ newer) kept =
    let source = (steady_one (c.node == e.node) c.kind e.source steady).0 in
    let held = (steady_one (c.node == e.node) c.kind e.held steady).1 in
    let due = (steady_one (c.node == e.node) c.kind e.due steady).2 in
    let below = passed_changed c steady newer e.node in
    let is = kept.0 in
    (omega (arith, source, below, is), λ some. held ∙ kept.1 some, λ none. due ∙ kept.2 (sym held ∙ none), kept_changed c steady newer kept.3)

differs_changed : (c : Change) (k : ℕ) (es : List Entry) → Differs k es → Differs k (map (entry_changed c) es)
differs_changed c k [] apart = tt
differs_changed c k (e ∷ newer) apart = (apart.0, differs_changed c k newer apart.1)

distinct_changed : (c : Change) (es : List Entry) → Distinct es → Distinct (map (entry_changed c) es)
distinct_changed c [] apart = tt
distinct_changed c (e ∷ newer) apart = (differs_changed c e.node newer apart.0, distinct_changed c newer apart.1)

before_changed : (c : Change) (before : ℕ → ℕ) (es : List Entry) → Before before es → Before before (map (entry_changed c) es)
before_changed c before [] were = tt
before_changed c before (e ∷ newer) were = (were.0, before_changed c before newer were.1)

settled_kept : (time : ℕ) (before : ℕ → ℕ) (es : List Entry) → Distinct es → AddUp es → Before before es → settled time before (map node_of es) ≡ map node_of es
settled_kept time before [] apart kept were = refl
settled_kept time before (e ∷ newer) apart kept were =
    let n = node_of e in
    let below = map node_of newer in
    ap (λ ns. settled_node time (before e.node) (total (n ∷ ns) e.node) n ∷ ns) (settled_kept time before newer apart.1 kept.3 were.1)
    ∙ ap (λ t. settled_node time t (total (n ∷ below) e.node) n ∷ below) were.0
    ∙ ap (λ t. settled_node time e.total t n ∷ below) (first_total e newer (agree newer apart.1 kept.3) ∙ sym kept.0)
    ∙ ap (λ f. node_of f ∷ below) (entry_same time e kept.1 kept.2)

pub settled_steady : (c : Change) → IsSteady c.kind → (before : ℕ → ℕ) (es : List Entry) → Distinct es → AddUp es → Before before es → settled c.time before (nodes_changed c.node c.kind (map node_of es)) ≡ nodes_changed c.node c.kind (map node_of es)
settled_steady c steady before es apart sums were =
    ap (settled c.time before) (sym (map_changed c es))
    ∙ settled_kept c.time before (map (entry_changed c) es) (distinct_changed c es apart) (kept_changed c steady es sums) (before_changed c before es were)
    ∙ map_changed c es

module _ (o : Inside) (c : Change) (keeps : IsObjection o) (within : IsWithin c.kind (total (nodes_of o) 0)) where
  distinct : Distinct (entries_of o)
  distinct = distinct_of (entries_of o) keeps.tree

  sums : AddUp (entries_of o)
  sums = add_up (entries_of o) distinct keeps.kept

  agrees : Agree (nodes_of o) (entries_of o)
  agrees = agree (entries_of o) distinct sums

  top_total : total (nodes_of o) 0 ≡ o.top.total
  top_total = ap (total (nodes_of o)) (sym keeps.tree.0) ∙ agrees.0

  within_top : IsWithin c.kind o.top.total
  within_top = let W : ℕ → Type 0 = IsWithin c.kind in subst W top_total within

  limit : o.top.total + most_raised c.kind ≤ 10 ^ 18
  limit = room c.kind o.top.total keeps.fits.0 within_top

  under : Under o.top.total (entries_of o)
  under = under_top o.top o.entries.items keeps.tree sums

  pub can_pass : c.time ≤ 10 ^ 18 → CanWalk c (entries_of o)
  can_pass early = walk_can c (entries_of o) distinct sums o.top.total within_top o.top.total limit under keeps.fits early

  settled_all : IsSettled c (walked c (entries_of o)).walk (entries_of o) (walked c (entries_of o)).entries
  settled_all = walk_settles c (entries_of o) distinct sums

  told_all : IsTold c (λ k. held_of k (nodes_of o)) (walked c (entries_of o)).walk (entries_of o) (walked c (entries_of o)).entries
  told_all = walk_tells c (λ k. held_of k (nodes_of o)) (entries_of o) distinct sums (was_held (entries_of o) distinct)

  module _ (next : Inside) (w : Walk) (entries : entries_of next ≡ (walked c (entries_of o)).entries) (walk : w ≡ (walked c (entries_of o)).walk) where
    shapes : shape (entries_of next) ≡ shape (entries_of o)
    shapes = ap shape entries ∙ settled_all.places

    pub kept_after : next.places ≡ o.places → IsObjection next
    kept_after same =
        let T : List (ℕ × Option ℕ) → Type 0 = IsTree in
        let K : List Entry → Type 0 = IsConsistent in
        let F : List Entry → Type 0 = Fits in
        record {
          tree = subst T (sym shapes) keeps.tree;
          placed = λ node. ap (λ m. get nat_eq m node) same ∙ keeps.placed node ∙ ap (λ ps. place_in node (drop 1 ps)) (sym shapes);
          kept = subst K (sym entries) (kept_of (walked c (entries_of o)).entries settled_all.distinct settled_all.kept);
          fits = subst F (sym entries) (settled_all.fits o.top.total within_top o.top.total limit under keeps.fits);
        }

    pub nodes_after : (now : ℕ) → IsTimely c.kind c.time now → nodes_of next ≡ settled now (total (nodes_of o)) (nodes_changed c.node c.kind (nodes_of o))
    nodes_after now is =
        ap (map node_of) entries
        ∙ settled_all.nodes (total (nodes_of o)) now (timely c.node c.kind c.time now is) (before_kept (nodes_of o) (entries_of o) agrees)
        ∙ ap (settled now (total (nodes_of o))) (map_changed c (entries_of o))

    pub begun_after : drains_begun (nodes_of o) (nodes_of next) ≡ option_to_list w.began
    begun_after = ap (λ es. drains_begun (nodes_of o) (map node_of es)) entries ∙ told_all.began ∙ ap (λ v. option_to_list v.began) (sym walk)

    pub ended_after : drains_ended (nodes_of o) (nodes_of next) ≡ option_to_list w.ended
    ended_after = ap (λ es. drains_ended (nodes_of o) (map node_of es)) entries ∙ told_all.ended ∙ ap (λ v. option_to_list v.ended) (sym walk)

    pub told_after : TellsOf c.kind c.node (held_of c.node (nodes_of o)) w
    told_after =
        let T : Walk → Type 0 = TellsOf c.kind c.node (held_of c.node (nodes_of o)) in
        subst T (sym walk) (tells c.node c.kind c.time (λ k. held_of k (nodes_of o)) _ (entries_of o) _ told_all)

    pub steady_after : IsSteady c.kind → nodes_of next ≡ nodes_changed c.node c.kind (nodes_of o)
    steady_after steady =
        nodes_after c.time (same_time c.kind c.time)
        ∙ settled_steady c steady (total (nodes_of o)) (entries_of o) distinct sums (before_kept (nodes_of o) (entries_of o) agrees)
