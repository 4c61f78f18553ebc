-- The next node in Up: the first below the next child of the parent, or the parent.
use Rattle.uvm_tree.proofs.Common.{◌≡◌, ◌<◌, ◌&&◌, ℕ, zero, suc, Bool, true, false, List, [], ◌∷◌, ◌++◌, length, Option, Some, None, is_some, option_and_then, refl, ap, ◌∙◌, sym, subst, inl, inr, ◌⊎◌, arith, filter, append_assoc, length-append, Less, IsTotalOrder, is_lt, Up, up_cmp, Node, AreNodes, node_at, path_at, under_at, is_named_before, IsLeast, is_before, node_cmp, numbers_of, IsNextChild, is_child_after, IsBelow, IsFirstBelow}
use Rattle.uvm_tree.proofs.Below as below
use Rattle.uvm_tree.proofs.Down.{compared, no_child, not_both, not_itself, one_child, true-and}
use Rattle.uvm_tree.proofs.Standing.{less}
use Rattle.uvm_tree.proofs.Grown.{within}
use Rattle.uvm_tree.proofs.Kin.{after_child, before_by_name, child_after}
use Rattle.uvm_tree.proofs.Least.{least-none, least-some, not_true}
use Rattle.uvm_tree.proofs.Paths.{Names, name_cmp, up-longer}

module _ (nodes : List Node) (tree : AreNodes nodes) (total : IsTotalOrder up_cmp) where
  -- a child, and all below it, stands before its parent
  below_before : (above c : ℕ) (name : List ℕ) → under_at nodes c ≡ Some (above, name) → (n : ℕ) → IsBelow nodes c n → node_cmp up_cmp nodes n above ≡ Less
  below_before above c name e n under =
      let whole : path_at nodes n ≡ path_at nodes above ++ name ∷ under.0 = under.1 ∙ ap (λ (p : Names). p ++ under.0) (tree.paths c (above, name) e) ∙ append_assoc (path_at nodes above) (name ∷ []) under.0 in
      ap (λ (p : Names). up_cmp p (path_at nodes above)) whole ∙ up-longer (path_at nodes above) name under.0

  -- a node without children is the first below itself
  pub first-alone : (node : ℕ) → node < length nodes → IsNextChild nodes node None None → IsFirstBelow nodes node node
  first-alone node there next = record {
    inside = there;
    below = below.itself nodes tree node;
    first = λ n here under. not_true (is_before up_cmp nodes n node) (λ f.
        elim (below.cases nodes tree node n there here under) [
          | inl same ↦ not_itself nodes tree Up total node (subst (λ (k : ℕ). is_before up_cmp nodes k node ≡ true) same f)
          | inr through ↦ no_child nodes tree node None next through.0 (child_after nodes node through.0 through.1 None through.2.under refl)
        ]);
  }

  -- nothing below a later child stands before what stands below this one
  before_later : (above : ℕ) (after : Option (List ℕ)) (c : ℕ) → IsNextChild nodes above after (Some c) → (leaf : ℕ) → IsFirstBelow nodes c leaf → (d n : ℕ) (x : List ℕ) → under_at nodes d ≡ Some (above, x) → is_child_after nodes above after d ≡ true → n < length nodes → IsBelow nodes d n → is_before up_cmp nodes n leaf ≡ true → ⊥
  before_later above after c next leaf first d n x e is here under f =
      let own = after_child nodes above c after next.child in
      elim (compared x own.0) [
        | inl low ↦
            let one : is_named_before nodes d c ≡ false = next.first d is in
            let other : is_named_before nodes d c ≡ true = before_by_name nodes above d c x own.0 e own.1 ∙ ap is_lt low in
            cc
        | inr rest ↦
            elim rest [
              | inl same ↦
                  let one = one_child nodes tree above d c x own.0 e own.1 same in
                  let none = first.first n here (subst (λ (k : ℕ). IsBelow nodes k n) one under) in
                  cc
              | inr high ↦ not_both nodes tree Up total leaf n (below.parted nodes tree Up above c d leaf n own.0 x own.1 e high first.below under) f
            ]
      ]

  -- the first below the first child is the first below the node
  pub first-child : (node c leaf : ℕ) → node < length nodes → IsNextChild nodes node None (Some c) → IsFirstBelow nodes c leaf → IsFirstBelow nodes node leaf
  first-child node c leaf there next first =
      let own = after_child nodes node c None next.child in
      record {
        inside = first.inside;
        below = below.further nodes tree node c leaf (below.child_below nodes tree node c own.0 own.1) first.below;
        first = λ n here under. not_true (is_before up_cmp nodes n leaf) (λ f.
            elim (below.cases nodes tree node n there here under) [
              | inl same ↦ not_both nodes tree Up total leaf node (below_before node c own.0 own.1 leaf first.below) (subst (λ (k : ℕ). is_before up_cmp nodes k leaf ≡ true) same f)
              | inr through ↦ before_later node None c next leaf first through.0 n through.1 through.2.under (child_after nodes node through.0 through.1 None through.2.under refl) here through.2.below f
            ]);
      }

  -- what stands below a node that is not the top is not the top
  low_below : (c n : ℕ) (above : ℕ) (name : List ℕ) → under_at nodes c ≡ Some (above, name) → IsBelow nodes c n → 0 < n
  low_below c zero above name e under =
      let none : [] ≡ path_at nodes c ++ under.0 = sym (below.top-path nodes tree) ∙ under.1 in
      let whole = tree.paths c (above, name) e in
      absurd (omega (arith, ap length none, length-append (path_at nodes c) under.0, ap length whole, length-append (path_at nodes above) (name ∷ [])))
  low_below c (suc n) above name e under = omega arith

  -- a node behind another in Up that does not stand below its parent, or is led to by a later child
  module _ (m above : ℕ) (a : List ℕ) (e : under_at nodes m ≡ Some (above, a)) (n : ℕ) (here : n < length nodes) (behind : is_before up_cmp nodes m n ≡ true) where
    there : above < length nodes
    there = let low = tree.parents m (above, a) e in let inside = within nodes m (above, a) e in omega arith

    below_itself : IsBelow nodes m n → ⊥
    below_itself under =
        elim (below.cases nodes tree m n (within nodes m (above, a) e) here under) [
          | inl same ↦ not_itself nodes tree Up total m (subst (λ (k : ℕ). is_before up_cmp nodes m k ≡ true) same behind)
          | inr through ↦ not_both nodes tree Up total n m (below_before m through.0 through.1 through.2.under n through.2.below) behind
        ]

    by_child : (c : ℕ) (x : List ℕ) → under_at nodes c ≡ Some (above, x) → IsBelow nodes c n → is_child_after nodes above (Some a) c ≡ true
    by_child c x f under =
        elim (compared x a) [
          | inl low ↦ absurd (not_both nodes tree Up total n m (below.parted nodes tree Up above c m n m x a f e low under (below.itself nodes tree m)) behind)
          | inr rest ↦
              elim rest [
                | inl same ↦ absurd (below_itself (subst (λ (k : ℕ). IsBelow nodes k n) (one_child nodes tree above c m x a f e same) under))
                | inr high ↦ child_after nodes above c x (Some a) f (ap is_lt high)
              ]
        ]

    -- below the parent it is the parent, or a later child leads to it
    pub or_later : IsBelow nodes above n → (n ≡ above) ⊎ ((c : ℕ) × (x : List ℕ) × (under_at nodes c ≡ Some (above, x)) × (is_child_after nodes above (Some a) c ≡ true) × IsBelow nodes c n)
    or_later under =
        elim (below.cases nodes tree above n there here under) [
          | inl same ↦ inl same
          | inr through ↦ inr (through.0, through.1, through.2.under, by_child through.0 through.1 through.2.under through.2.below, through.2.below)
        ]

    -- and not below it, it stands behind all that does
    pub behind_all : (d : ℕ) → IsBelow nodes above d → (IsBelow nodes above n → ⊥) → node_cmp up_cmp nodes d n ≡ Less
    behind_all d under other =
        below.apart nodes tree Up above d n under other
        ∙ sym (below.apart nodes tree Up above m n (below.child_below nodes tree above m a e) other)
        ∙ less _ behind

  -- the nodes behind one
  module _ (m above : ℕ) (a : List ℕ) (e : under_at nodes m ≡ Some (above, a)) where
    abbrev is_behind : ℕ → Bool
    is_behind n = is_some (node_at nodes m) && is_before up_cmp nodes m n

    found : is_some (node_at nodes m) ≡ true
    found = by_node (node_at nodes m) refl
      where
        by_node : (o : Option Node) → node_at nodes m ≡ o → is_some o ≡ true
        by_node None f = absurd (let none = ap (option_and_then (λ (node : Node). node.under)) f in cc)
        by_node (Some node) f = refl

    to : (n : ℕ) → is_behind n ≡ true → is_before up_cmp nodes m n ≡ true
    to n passes = sym (true-and (is_some (node_at nodes m)) (is_before up_cmp nodes m n) found) ∙ passes

    from : (n : ℕ) → is_before up_cmp nodes m n ≡ true → is_behind n ≡ true
    from n behind = true-and (is_some (node_at nodes m)) (is_before up_cmp nodes m n) found ∙ behind

    pub up-sibling : (s leaf : ℕ) → IsNextChild nodes above (Some a) (Some s) → IsFirstBelow nodes s leaf → IsLeast (is_before up_cmp nodes) (filter is_behind (numbers_of nodes)) (Some leaf)
    up-sibling s leaf next first =
        let own = after_child nodes above s (Some a) next.child in
        let later : name_cmp a own.0 ≡ Less = less (name_cmp a own.0) own.2 in
        let in_parent = below.further nodes tree above s leaf (below.child_below nodes tree above s own.0 own.1) first.below in
        least-some is_behind (is_before up_cmp nodes) nodes leaf (low_below s leaf above own.0 own.1 first.below) first.inside
        (from leaf (ap is_lt (below.parted nodes tree Up above m s m leaf a own.0 e own.1 later (below.itself nodes tree m) first.below)))
        (λ n low here passes. not_true (is_before up_cmp nodes n leaf) (λ f.
        let behind = to n passes in
        let other : IsBelow nodes above n → ⊥ = λ under.
        elim (or_later m above a e n here behind under) [
          | inl same ↦ not_both nodes tree Up total leaf above (below_before above s own.0 own.1 leaf first.below) (subst (λ (k : ℕ). is_before up_cmp nodes k leaf ≡ true) same f)
          | inr way ↦ before_later above (Some a) s next leaf first way.0 n way.1 way.2 way.3 here way.4 f
        ] in
        not_both nodes tree Up total leaf n (behind_all m above a e n here behind leaf in_parent other) f))

    -- below the parent it is the parent, where there is no later child
    only_parent : IsNextChild nodes above (Some a) None → (n : ℕ) → n < length nodes → is_before up_cmp nodes m n ≡ true → IsBelow nodes above n → n ≡ above
    only_parent next n here behind under =
        elim (or_later m above a e n here behind under) [
          | inl same ↦ same
          | inr way ↦ absurd (no_child nodes tree above (Some a) next way.0 way.3)
        ]

    pub up-parent : IsNextChild nodes above (Some a) None → 0 < above → IsLeast (is_before up_cmp nodes) (filter is_behind (numbers_of nodes)) (Some above)
    up-parent next high =
        let low = tree.parents m (above, a) e in
        let inside = within nodes m (above, a) e in
        least-some is_behind (is_before up_cmp nodes) nodes above high (omega arith)
        (from above (ap is_lt (below_before above m a e m (below.itself nodes tree m))))
        (λ n first here passes. not_true (is_before up_cmp nodes n above) (λ f.
        let behind = to n passes in
        let other : IsBelow nodes above n → ⊥ = λ under.
        let same = only_parent next n here behind under in
        not_itself nodes tree Up total above (subst (λ (k : ℕ). is_before up_cmp nodes k above ≡ true) same f) in
        not_both nodes tree Up total above n (behind_all m above a e n here behind above (below.itself nodes tree above) other) f))

    pub up-end : IsNextChild nodes above (Some a) None → above ≡ 0 → IsLeast (is_before up_cmp nodes) (filter is_behind (numbers_of nodes)) None
    up-end next top =
        least-none is_behind (is_before up_cmp nodes) nodes
        (λ n first here passes.
        let all : IsBelow nodes above n = (path_at nodes n, ap (λ (p : Names). p ++ path_at nodes n) (sym (ap (path_at nodes) top ∙ below.top-path nodes tree))) in
        let same = only_parent next n here (to n passes) all in
        omega arith)

  -- nothing stands behind the top
  pub up-none : (m : ℕ) → path_at nodes m ≡ [] → IsLeast (is_before up_cmp nodes) (filter (λ n. is_some (node_at nodes m) && is_before up_cmp nodes m n) (numbers_of nodes)) None
  up-none m e =
      least-none (λ n. is_some (node_at nodes m) && is_before up_cmp nodes m n) (is_before up_cmp nodes) nodes
      (λ n first here passes. by_test (is_some (node_at nodes m)) (is_before up_cmp nodes m n) (ap (λ (p : Names). is_lt (up_cmp p (path_at nodes n))) e ∙ last (path_at nodes n)) passes)
    where
      last : (p : Names) → is_lt (up_cmp [] p) ≡ false
      last [] = refl
      last (x ∷ p) = refl

      by_test : (b c : Bool) → c ≡ false → (b && c) ≡ true → ⊥
      by_test true c f g = cc
      by_test false c f g = cc

  -- the first of all
  pub up-first : (c leaf : ℕ) → IsNextChild nodes 0 None (Some c) → IsFirstBelow nodes c leaf → IsLeast (is_before up_cmp nodes) (filter (λ n. true) (numbers_of nodes)) (Some leaf)
  up-first c leaf next first =
      let own = after_child nodes 0 c None next.child in
      let inside = within nodes c (0, own.0) own.1 in
      let whole = first-child 0 c leaf (omega arith) next first in
      least-some (λ n. true) (is_before up_cmp nodes) nodes leaf (low_below c leaf 0 own.0 own.1 first.below) first.inside refl
      (λ n low here passes. whole.first n here (path_at nodes n, ap (λ (p : Names). p ++ path_at nodes n) (sym (below.top-path nodes tree))))

  pub up-nothing : IsNextChild nodes 0 None None → IsLeast (is_before up_cmp nodes) (filter (λ n. true) (numbers_of nodes)) None
  up-nothing next =
      least-none (λ n. true) (is_before up_cmp nodes) nodes
      (λ n low here passes.
      let there : 0 < length nodes = omega arith in
      elim (below.cases nodes tree 0 n there here (path_at nodes n, ap (λ (p : Names). p ++ path_at nodes n) (sym (below.top-path nodes tree)))) [
        | inl same ↦ omega arith
        | inr through ↦ no_child nodes tree 0 None next through.0 (child_after nodes 0 through.0 through.1 None through.2.under refl)
      ])
