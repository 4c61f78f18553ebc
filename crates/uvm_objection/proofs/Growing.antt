-- What a change makes of nodes, by their totals from scratch.
use Rattle.uvm_objection.proofs.Common.{◌≡◌, ◌<◌, ◌≤◌, ℕ, ◌+◌, Bool, true, false, ◌||◌, ◌==◌, List, [], ◌∷◌, ◌++◌, map, Option, refl, sym, ap, ◌∙◌, subst, arith, Entry, Change, Raise, Drop, Release, SetDrain, Node, top, new_node, is_known, held_of, due_of, total, settled, places, IsNew, AreUnder, IsTree, AreNodes, GrowsBy, NodesGrow, nodes_changed, most_raised, IsTimely, IsSteady, walked, node_of, IsConsistent, shape}
use Rattle.uvm_objection.proofs.Passed.{AddUp}
use Rattle.uvm_objection.proofs.Trees.{Distinct, distinct_of, same_node, other_node, true_node}
use Rattle.uvm_objection.proofs.Sums.{agree, add_up}
use Rattle.uvm_objection.proofs.Settling.{IsSettled, walk_settles, few_after}
use Rattle.uvm_objection.proofs.Adding.{new_entry, kept_push, tree_push}
use Rattle.uvm_objection.proofs.Objecting.{holds_nothing, nothing_due, timely, same_time, before_kept, map_changed, settled_steady}

-- the nodes with their totals
abbrev entries_at : List Node → List Entry
entries_at [] = []
entries_at (e ∷ newer) = record { node = e.node; parent = e.parent; source = e.source; drain = e.drain; held = e.held; due = e.due; total = total (e ∷ newer) e.node } ∷ entries_at newer

same_nodes : (nodes : List Node) → map node_of (entries_at nodes) ≡ nodes
same_nodes [] = refl
same_nodes (e ∷ newer) = ap (λ ns. e ∷ ns) (same_nodes newer)

-- a node with a positive total holds nothing, and so it is without the first
abbrev Positive : List Node → Type 0
Positive nodes = (node : ℕ) → 0 < total nodes node → held_of node nodes ≡ 0

total_absent : (node : ℕ) (nodes : List Node) → IsNew node (places nodes) → total nodes node ≡ 0
total_absent node [] new = refl
total_absent node (e ∷ newer) new = rw (other_node e.node node new.0) (total_absent node newer new.1)

positive_later : (e : Node) (newer : List Node) → IsNew e.node (places newer) → Positive (e ∷ newer) → Positive newer
positive_later e newer new positive node some = by_test (e.node == node) refl
  where
    by_test : (b : Bool) → (e.node == node) ≡ b → held_of node newer ≡ 0
    by_test true here =
        let none : total newer node ≡ 0 = ap (total newer) (sym (true_node e.node node here)) ∙ total_absent e.node newer new in
        absurd (omega (arith, some, none))
    by_test false here =
        let more : 0 < total (e ∷ newer) node = rw here some in
        let is = positive node more in
        rw here at is

-- nothing is due where nothing is held, and so it is without the first
abbrev Over : List Node → Type 0
Over nodes = (node : ℕ) → held_of node nodes ≡ 0 → due_of node nodes ≡ 0

due_absent : (node : ℕ) (nodes : List Node) → IsNew node (places nodes) → due_of node nodes ≡ 0
due_absent node [] new = refl
due_absent node (e ∷ newer) new = rw (other_node e.node node new.0) (due_absent node newer new.1)

over_later : (e : Node) (newer : List Node) → IsNew e.node (places newer) → Over (e ∷ newer) → Over newer
over_later e newer new over node none = by_test (e.node == node) refl
  where
    by_test : (b : Bool) → (e.node == node) ≡ b → due_of node newer ≡ 0
    by_test true here = ap (λ k. due_of k newer) (sym (true_node e.node node here)) ∙ due_absent e.node newer new
    by_test false here =
        let still : held_of node (e ∷ newer) ≡ 0 = rw here none in
        let is = over node still in
        rw here at is

kept_first : (e : Node) (newer : List Node) → Positive (e ∷ newer) → Over (e ∷ newer) → IsConsistent (entries_at newer) → IsConsistent (entries_at (e ∷ newer))
kept_first e newer positive over kept = (
  ap (λ ns. total ns e.node) (sym (same_nodes (e ∷ newer))),
  λ some. let is = positive e.node some in rw (same_node e.node) at is,
  λ none. let first : held_of e.node (e ∷ newer) ≡ 0 = rw (same_node e.node) none in let is = over e.node first in rw (same_node e.node) at is,
  kept,
)

kept_under : (known : ℕ → Bool) (nodes : List Node) → AreUnder known (places nodes) → Positive nodes → Over nodes → IsConsistent (entries_at nodes)
kept_under known [] under positive over = tt
kept_under known (e ∷ newer) under positive over =
    let seen : ℕ → Bool = λ k. (e.node == k) || known k in
    kept_first e newer positive over (kept_under seen newer under.2 (positive_later e newer under.1 positive) (over_later e newer under.1 over))

kept_at : (nodes : List Node) → AreNodes nodes → IsConsistent (entries_at nodes)
kept_at [] are = tt
kept_at (e ∷ newer) are =
    let known : ℕ → Bool = λ k. e.node == k in
    kept_first e newer are.positive are.over (kept_under known newer are.tree.3 (positive_later e newer are.tree.2 are.positive) (over_later e newer are.tree.2 are.over))

-- the total of the top among entries
abbrev first_total_of : List Entry → ℕ
first_total_of [] = 0
first_total_of (e ∷ newer) = e.total

top_total : (es : List Entry) → IsTree (shape es) → Distinct es → AddUp es → total (map node_of es) 0 ≡ first_total_of es
top_total [] tree apart sums = refl
top_total (e ∷ newer) tree apart sums = ap (total (map node_of (e ∷ newer))) (sym tree.0) ∙ (agree (e ∷ newer) apart sums).0

grown : (es ys : List Entry) (count : ℕ) → IsTree (shape es) → Distinct es → AddUp es → IsTree (shape ys) → Distinct ys → AddUp ys → first_total_of ys ≤ first_total_of es + count → GrowsBy count (map node_of es) (map node_of ys)
grown es ys count tree apart sums tree' apart' sums' most =
    let before = top_total es tree apart sums in
    let after = top_total ys tree' apart' sums' in
    record {
      nodes = record { tree = tree'; positive = λ node some. holds_nothing node ys apart' sums' some; over = λ node none. nothing_due node ys sums' none };
      most = omega (arith, before, after, most);
    }

most_after : (c : Change) (es : List Entry) → Distinct es → AddUp es → first_total_of (walked c es).entries ≤ first_total_of es + most_raised c.kind
most_after c [] apart sums = omega arith
most_after c (e ∷ newer) apart sums = (few_after c (walked c newer).walk e newer (walked c newer).entries (walk_settles c newer apart.1 sums.3) apart sums).0

map_push : (node parent : ℕ) (es : List Entry) → map node_of (es ++ new_entry node parent ∷ []) ≡ map node_of es ++ new_node node parent ∷ []
map_push node parent [] = refl
map_push node parent (e ∷ newer) = ap (λ ns. node_of e ∷ ns) (map_push node parent newer)

first_push : (node parent : ℕ) (es : List Entry) → IsTree (shape es) → first_total_of (es ++ new_entry node parent ∷ []) ≤ first_total_of es + 0
first_push node parent [] tree = absurd tree
first_push node parent (e ∷ newer) tree = omega arith

module _ (nodes : List Node) (are : AreNodes nodes) where
  abbrev es : List Entry
  es = entries_at nodes

  tree : IsTree (shape es)
  tree = let T : List Node → Type 0 = λ ns. IsTree (places ns) in subst T (sym (same_nodes nodes)) are.tree

  apart : Distinct es
  apart = distinct_of es tree

  sums : AddUp es
  sums = add_up es apart (kept_at nodes are)

  changed_grows : (c : Change) (time : ℕ) → IsTimely c.kind c.time time → GrowsBy (most_raised c.kind) nodes (settled time (total nodes) (nodes_changed c.node c.kind nodes))
  changed_grows c time is =
      let after : IsSettled c (walked c es).walk es (walked c es).entries = walk_settles c es apart sums in
      let T : List (ℕ × Option ℕ) → Type 0 = IsTree in
      let tree' = subst T (sym after.places) tree in
      let grows = grown es (walked c es).entries (most_raised c.kind) tree apart sums tree' after.distinct after.kept (most_after c es apart sums) in
      let now = after.nodes (total (map node_of es)) time (timely c.node c.kind c.time time is) (before_kept (map node_of es) es (agree es apart sums)) ∙ ap (settled time (total (map node_of es))) (map_changed c es) in
      let G : List Node → Type 0 = GrowsBy (most_raised c.kind) (map node_of es) in
      let H : List Node → Type 0 = λ ns. GrowsBy (most_raised c.kind) ns (settled time (total ns) (nodes_changed c.node c.kind ns)) in
      subst H (same_nodes nodes) (subst G now grows)

  steady_grows : (c : Change) → IsSteady c.kind → GrowsBy (most_raised c.kind) nodes (nodes_changed c.node c.kind nodes)
  steady_grows c steady =
      let S : List Node → Type 0 = λ ns. settled c.time (total ns) (nodes_changed c.node c.kind ns) ≡ nodes_changed c.node c.kind ns in
      let same = settled_steady c steady (total (map node_of es)) es apart sums (before_kept (map node_of es) es (agree es apart sums)) in
      let G : List Node → Type 0 = GrowsBy (most_raised c.kind) nodes in
      subst G (subst S (same_nodes nodes) same) (changed_grows c c.time (same_time c.kind c.time))

  added_grows : (node parent : ℕ) → is_known node nodes ≡ false → is_known parent nodes ≡ true → GrowsBy 0 nodes (nodes ++ new_node node parent ∷ [])
  added_grows node parent unknown above =
      let more = es ++ new_entry node parent ∷ [] in
      let tree' = tree_push node parent es tree (ap (is_known node) (same_nodes nodes) ∙ unknown) (ap (is_known parent) (same_nodes nodes) ∙ above) in
      let grows = grown es more 0 tree apart sums tree' (distinct_of more tree') (kept_push node parent es sums) (first_push node parent es tree) in
      let G : List Node → Type 0 = GrowsBy 0 (map node_of es) in
      let H : List Node → Type 0 = λ ns. GrowsBy 0 ns (ns ++ new_node node parent ∷ []) in
      subst H (same_nodes nodes) (subst G (map_push node parent es) grows)

top_alone : AreNodes (top ∷ [])
top_alone = record { tree = (refl, refl, tt, tt); positive = λ node some. nothing node (0 == node) refl; over = λ node none. due node (0 == node) refl }
  where
    nothing : (node : ℕ) (b : Bool) → (0 == node) ≡ b → held_of node (top ∷ []) ≡ 0
    nothing node true here = rw here refl
    nothing node false here = rw here refl

    due : (node : ℕ) (b : Bool) → (0 == node) ≡ b → due_of node (top ∷ []) ≡ 0
    due node true here = rw here refl
    due node false here = rw here refl

pub nodes_grow : NodesGrow
nodes_grow = (
  top_alone,
  λ nodes are. record {
    added = λ node parent unknown above. added_grows nodes are node parent unknown above;
    raised = λ time node count. changed_grows nodes are (record { node = node; kind = Raise count; time = time }) time tt;
    dropped = λ time node count. changed_grows nodes are (record { node = node; kind = Drop count; time = time }) time refl;
    released = λ time node. changed_grows nodes are (record { node = node; kind = Release; time = time }) time refl;
    with_drain = λ node drain. steady_grows nodes are (record { node = node; kind = SetDrain drain; time = 0 }) tt;
  },
)
