-- The next node in Down: the first child, or the next child of the nearest node above that has one.
use Rattle.uvm_tree.proofs.Common.{◌≡◌, ◌<◌, ◌&&◌, ℕ, zero, suc, Bool, true, false, List, [], ◌∷◌, ◌++◌, length, Option, Some, None, is_some, refl, ap, ◌∙◌, sym, subst, inl, inr, ◌⊎◌, arith, append_assoc, filter, nat_list_cmp_total, tied_itself, exact_bytes, slice_get_within, Ordering, Less, Equal, Greater, IsTotalOrder, option_map_or, is_lt, ordering_reverse, Direction, Down, down_cmp, order_of, Node, AreNodes, node_at, path_at, under_at, is_named_before, IsLeast, is_before, node_cmp, numbers_of, IsNextChild, is_child_after, IsBelow, IsBeside, append-nil}
use Rattle.uvm_tree.proofs.Below as below
use Rattle.uvm_tree.proofs.Below.{Through}
use Rattle.uvm_tree.proofs.Standing.{less}
use Rattle.uvm_tree.proofs.Grown.{siblings, within}
use Rattle.uvm_tree.proofs.Kin.{after_child, before_by_name, child_after}
use Rattle.uvm_tree.proofs.Least.{least-none, least-some, not_true}
use Rattle.uvm_tree.proofs.Paths.{Names, down-longer, name_cmp}

pub true-and : (a b : Bool) → a ≡ true → (a && b) ≡ b
true-and true b e = refl
true-and false b e = cc

false-and : (a b : Bool) → a ≡ false → (a && b) ≡ false
false-and true b e = cc
false-and false b e = refl

-- two names are in order, or one, or the other way round
by_name : (a b : List ℕ) (o : Ordering) → name_cmp a b ≡ o → (name_cmp a b ≡ Less) ⊎ ((a ≡ b) ⊎ (name_cmp b a ≡ Less))
by_name a b Less e = inl e
by_name a b Equal e = inr (inl (exact_bytes a b e))
by_name a b Greater e = inr (inr (nat_list_cmp_total.antisymm b a ∙ ap ordering_reverse e))

pub compared : (a b : List ℕ) → (name_cmp a b ≡ Less) ⊎ ((a ≡ b) ⊎ (name_cmp b a ≡ Less))
compared a b = by_name a b (name_cmp a b) refl

module _ (nodes : List Node) (tree : AreNodes nodes) where
  -- one child of each name
  pub one_child : (above c d : ℕ) (a b : List ℕ) → under_at nodes c ≡ Some (above, a) → under_at nodes d ≡ Some (above, b) → a ≡ b → c ≡ d
  one_child above c d a b e f same = siblings nodes tree c d (above, b) (e ∙ ap (λ (x : List ℕ). Some (above, x)) same) f

  -- no child comes where none is found
  pub no_child : (above : ℕ) (after : Option (List ℕ)) → IsNextChild nodes above after None → (c : ℕ) → is_child_after nodes above after c ≡ true → ⊥
  no_child above after next c is = let none = next.none c in cc

  module _ (direction : Direction) (total : IsTotalOrder (order_of direction)) where
    abbrev before : ℕ → ℕ → Bool
    before m n = is_before (order_of direction) nodes m n

    pub not_itself : (n : ℕ) → before n n ≡ true → ⊥
    not_itself n e = let f = ap is_lt (tied_itself total (path_at nodes n)) in cc

    -- of two nodes not each stands before the other
    pub not_both : (m n : ℕ) → node_cmp (order_of direction) nodes m n ≡ Less → before n m ≡ true → ⊥
    not_both m n e f = let g = ap is_lt (total.antisymm (path_at nodes n) (path_at nodes m) ∙ ap ordering_reverse e) in cc

  module _ (total : IsTotalOrder down_cmp) where
    -- nothing below a node stands before it
    longer : (above n : ℕ) (rest : Names) → path_at nodes n ≡ path_at nodes above ++ rest → is_before down_cmp nodes n above ≡ true → ⊥
    longer above n [] e f =
        let same : path_at nodes n ≡ path_at nodes above = e ∙ append-nil (path_at nodes above) in
        not_itself Down total above (ap (λ (p : Names). is_lt (down_cmp p (path_at nodes above))) (sym same) ∙ f)
    longer above n (x ∷ rest) e f =
        not_both Down total above n (ap (down_cmp (path_at nodes above)) e ∙ down-longer (path_at nodes above) x rest) f

    -- a child stands behind its parent
    pub child_behind : (above c : ℕ) (name : List ℕ) → under_at nodes c ≡ Some (above, name) → node_cmp down_cmp nodes above c ≡ Less
    child_behind above c name e = ap (down_cmp (path_at nodes above)) (tree.paths c (above, name) e) ∙ down-longer (path_at nodes above) name []

    -- what stands below a child that comes after another child stands behind that one
    behind_next : (above : ℕ) (after : Option (List ℕ)) (c : ℕ) → IsNextChild nodes above after (Some c) → (d n : ℕ) (x : List ℕ) → under_at nodes d ≡ Some (above, x) → is_child_after nodes above after d ≡ true → IsBelow nodes d n → is_before down_cmp nodes n c ≡ true → ⊥
    behind_next above after c next d n x e is under f =
        let own = after_child nodes above c after next.child in
        elim (compared x own.0) [
          | inl low ↦
              let first : is_named_before nodes d c ≡ false = next.first d is in
              let other : is_named_before nodes d c ≡ true = before_by_name nodes above d c x own.0 e own.1 ∙ ap is_lt low in
              cc
          | inr rest ↦
              elim rest [
                | inl same ↦
                    let one = one_child above d c x own.0 e own.1 same in
                    let here : IsBelow nodes c n = subst (λ (k : ℕ). IsBelow nodes k n) one under in
                    longer c n here.0 here.1 f
                | inr high ↦ not_both Down total c n (below.parted nodes tree Down above c d c n own.0 x own.1 e high (below.itself nodes tree c) under) f
              ]
        ]

    -- a node behind another, and not below it, is not below the parent, unless a later child leads to it
    module _ (m above : ℕ) (a : List ℕ) (e : under_at nodes m ≡ Some (above, a)) (n : ℕ) (here : n < length nodes) (behind : is_before down_cmp nodes m n ≡ true) (other : IsBelow nodes m n → ⊥) where
      by_child : (c : ℕ) (x : List ℕ) → under_at nodes c ≡ Some (above, x) → IsBelow nodes c n → ((is_child_after nodes above (Some a) c ≡ true) → ⊥) → ⊥
      by_child c x f under no_later =
          elim (compared x a) [
            | inl low ↦ not_both Down total n m (below.parted nodes tree Down above c m n m x a f e low under (below.itself nodes tree m)) behind
            | inr rest ↦
                elim rest [
                  | inl same ↦ other (subst (λ (k : ℕ). IsBelow nodes k n) (one_child above c m x a f e same) under)
                  | inr high ↦ no_later (child_after nodes above c x (Some a) f (ap is_lt high))
                ]
          ]

      not_above : n ≡ above → ⊥
      not_above same =
          let back : is_before down_cmp nodes m above ≡ true = subst (λ (k : ℕ). is_before down_cmp nodes m k ≡ true) same behind in
          not_both Down total above m (child_behind above m a e) back

      pub not_below : ((c : ℕ) (x : List ℕ) → under_at nodes c ≡ Some (above, x) → IsBelow nodes c n → is_child_after nodes above (Some a) c ≡ true → ⊥) → IsBelow nodes above n → ⊥
      not_below no_later under =
          let low = tree.parents m (above, a) e in
          let there = within nodes m (above, a) e in
          elim (below.cases nodes tree above n (omega arith) here under) [
            | inl same ↦ not_above same
            | inr through ↦ by_child through.0 through.1 through.2.under through.2.below (no_later through.0 through.1 through.2.under through.2.below)
          ]

      -- then it stands behind the parent as behind the node
      pub as_above : (IsBelow nodes above n → ⊥) → node_cmp down_cmp nodes above n ≡ Less
      as_above apart = sym (below.apart nodes tree Down above m n (below.child_below nodes tree above m a e) apart) ∙ less _ behind

    pub beside-some : (m above : ℕ) (a : List ℕ) → under_at nodes m ≡ Some (above, a) → (s : ℕ) → IsNextChild nodes above (Some a) (Some s) → IsBeside nodes m (Some s)
    beside-some m above a e s next =
        let own = after_child nodes above s (Some a) next.child in
        let later : name_cmp a own.0 ≡ Less = less (name_cmp a own.0) own.2 in
        let low = tree.parents s (above, own.0) own.1 in
        record {
          none = tt;
          inside = (omega arith, within nodes s (above, own.0) own.1);
          behind = ap is_lt (below.parted nodes tree Down above m s m s a own.0 e own.1 later (below.itself nodes tree m) (below.itself nodes tree s));
          first = λ n here behind other. not_true (is_before down_cmp nodes n s) (λ f.
              let apart = not_below m above a e n here behind other (λ c x g under is. behind_next above (Some a) s next c n x g is under f) in
              not_both Down total s n (below.apart nodes tree Down above s n (below.child_below nodes tree above s own.0 own.1) apart ∙ as_above m above a e n here behind other apart) f);
          apart = λ under. not_itself Down total s (ap is_lt (below.parted nodes tree Down above m s s s a own.0 e own.1 later under (below.itself nodes tree s)));
        }

    pub beside-none : (m above : ℕ) (a : List ℕ) → under_at nodes m ≡ Some (above, a) → IsNextChild nodes above (Some a) None → (found : Option ℕ) → IsBeside nodes above found → IsBeside nodes m found
    beside-none m above a e next None beside =
        record {
          none = λ n here behind other.
              let apart = not_below m above a e n here behind other (λ c x g under is. no_child above (Some a) next c is) in
              beside.none n here (ap is_lt (as_above m above a e n here behind other apart)) apart;
          inside = tt;
          behind = tt;
          first = tt;
          apart = tt;
        }
    beside-none m above a e next (Some s) beside =
        record {
          none = tt;
          inside = beside.inside;
          behind = ap is_lt (below.apart nodes tree Down above m s (below.child_below nodes tree above m a e) beside.apart) ∙ beside.behind;
          first = λ n here behind other.
              let apart = not_below m above a e n here behind other (λ c x g under is. no_child above (Some a) next c is) in
              beside.first n here (ap is_lt (as_above m above a e n here behind other apart)) apart;
          apart = λ under. beside.apart (below.further nodes tree above m s (below.child_below nodes tree above m a e) under);
        }

    -- what has no parent has the empty path
    pub no_path : (m : ℕ) → under_at nodes m ≡ None → (o : Option Node) → node_at nodes m ≡ o → option_map_or (λ (node : Node). node.path) o [] ≡ []
    no_path m e None f = refl
    no_path zero e (Some node) f = ap (λ (o : Option Node). option_map_or (λ (node : Node). node.path) o []) (sym f) ∙ below.top-path nodes tree
    no_path (suc m) e (Some node) f =
        let inside = slice_get_within nodes (suc m) node f in
        absurd (let some = tree.others (suc m) (omega arith) inside in let none = rw e at some in cc)

    pub beside-top : (m : ℕ) → under_at nodes m ≡ None → IsBeside nodes m None
    beside-top m e =
        let none = no_path m e (node_at nodes m) refl in
        record {
          none = λ n here behind other. other (path_at nodes n, ap (λ (p : Names). p ++ path_at nodes n) (sym none));
          inside = tt;
          behind = tt;
          first = tt;
          apart = tt;
        }

    -- of those that a test lets pass, which are the nodes behind one, the next
    module _ (m : ℕ) (there : m < length nodes) (p : ℕ → Bool) (to : (n : ℕ) → 0 < n → n < length nodes → p n ≡ true → is_before down_cmp nodes m n ≡ true) (from : (n : ℕ) → 0 < n → n < length nodes → is_before down_cmp nodes m n ≡ true → p n ≡ true) where
      pub down-child : (c : ℕ) → IsNextChild nodes m None (Some c) → IsLeast (is_before down_cmp nodes) (filter p (numbers_of nodes)) (Some c)
      down-child c next =
          let own = after_child nodes m c None next.child in
          let low = tree.parents c (m, own.0) own.1 in
          let inside = within nodes c (m, own.0) own.1 in
          least-some p (is_before down_cmp nodes) nodes c (omega arith) inside (from c (omega arith) inside (ap is_lt (child_behind m c own.0 own.1)))
          (λ n first last passes. not_true (is_before down_cmp nodes n c) (λ f.
          let behind = to n first last passes in
          let other : IsBelow nodes m n → ⊥ = λ under.
          elim (below.cases nodes tree m n there last under) [
            | inl same ↦ not_itself Down total m (subst (λ (k : ℕ). is_before down_cmp nodes m k ≡ true) same behind)
            | inr through ↦ behind_next m None c next through.0 n through.1 through.2.under (child_after nodes m through.0 through.1 None through.2.under refl) through.2.below f
          ] in
          not_both Down total c n (below.apart nodes tree Down m c n (below.child_below nodes tree m c own.0 own.1) other ∙ less _ behind) f))

      not_under : IsNextChild nodes m None None → (n : ℕ) → n < length nodes → is_before down_cmp nodes m n ≡ true → IsBelow nodes m n → ⊥
      not_under next n last behind under =
          elim (below.cases nodes tree m n there last under) [
            | inl same ↦ not_itself Down total m (subst (λ (k : ℕ). is_before down_cmp nodes m k ≡ true) same behind)
            | inr through ↦ no_child m None next through.0 (child_after nodes m through.0 through.1 None through.2.under refl)
          ]

      pub down-beside : IsNextChild nodes m None None → (found : Option ℕ) → IsBeside nodes m found → IsLeast (is_before down_cmp nodes) (filter p (numbers_of nodes)) found
      down-beside next None beside =
          least-none p (is_before down_cmp nodes) nodes (λ n first last passes. let behind = to n first last passes in beside.none n last behind (not_under next n last behind))
      down-beside next (Some s) beside =
          least-some p (is_before down_cmp nodes) nodes s beside.inside.0 beside.inside.1 (from s beside.inside.0 beside.inside.1 beside.behind)
          (λ n first last passes. let behind = to n first last passes in beside.first n last behind (not_under next n last behind))

    -- the nodes behind one that is there, and behind one that is not
    module _ (m : ℕ) where
      abbrev is_behind : ℕ → Bool
      is_behind n = is_some (node_at nodes m) && is_before down_cmp nodes m n

      pub down-lost : node_at nodes m ≡ None → IsLeast (is_before down_cmp nodes) (filter is_behind (numbers_of nodes)) None
      down-lost none = least-none is_behind (is_before down_cmp nodes) nodes (λ n low here passes. let never = false-and (is_some (node_at nodes m)) (is_before down_cmp nodes m n) (ap is_some none) in cc)

      module _ (node : Node) (kept : node_at nodes m ≡ Some node) where
        inside : m < length nodes
        inside = slice_get_within nodes m node kept

        to : (n : ℕ) → 0 < n → n < length nodes → is_behind n ≡ true → is_before down_cmp nodes m n ≡ true
        to n low here passes = sym (true-and (is_some (node_at nodes m)) (is_before down_cmp nodes m n) (ap is_some kept)) ∙ passes

        from : (n : ℕ) → 0 < n → n < length nodes → is_before down_cmp nodes m n ≡ true → is_behind n ≡ true
        from n low here behind = true-and (is_some (node_at nodes m)) (is_before down_cmp nodes m n) (ap is_some kept) ∙ behind

        pub down-to_child : (c : ℕ) → IsNextChild nodes m None (Some c) → IsLeast (is_before down_cmp nodes) (filter is_behind (numbers_of nodes)) (Some c)
        down-to_child c next = down-child m inside is_behind to from c next

        pub down-to_beside : IsNextChild nodes m None None → (found : Option ℕ) → IsBeside nodes m found → IsLeast (is_before down_cmp nodes) (filter is_behind (numbers_of nodes)) found
        down-to_beside next found beside = down-beside m inside is_behind to from next found beside

    -- the first of all is the first child of the top
    all_behind : (n : ℕ) → 0 < n → n < length nodes → is_before down_cmp nodes 0 n ≡ true
    all_behind n low here =
        elim (below.cases nodes tree 0 n (omega arith) here (path_at nodes n, ap (λ (p : Names). p ++ path_at nodes n) (sym (below.top-path nodes tree)))) [
          | inl same ↦ absurd (omega arith)
          | inr through ↦
              let whole : path_at nodes n ≡ path_at nodes 0 ++ through.1 ∷ through.2.below.0 =
              through.2.below.1 ∙ ap (λ (p : Names). p ++ through.2.below.0) (tree.paths through.0 (0, through.1) through.2.under) ∙ append_assoc (path_at nodes 0) (through.1 ∷ []) through.2.below.0 in
              ap is_lt (ap (down_cmp (path_at nodes 0)) whole ∙ down-longer (path_at nodes 0) through.1 through.2.below.0)
        ]

    pub down-first : (found : Option ℕ) → IsNextChild nodes 0 None found → IsLeast (is_before down_cmp nodes) (filter (λ n. true) (numbers_of nodes)) found
    down-first None next =
        least-none (λ n. true) (is_before down_cmp nodes) nodes
        (λ n low here passes.
        elim (below.cases nodes tree 0 n (omega arith) here (path_at nodes n, ap (λ (p : Names). p ++ path_at nodes n) (sym (below.top-path nodes tree)))) [
          | inl same ↦ omega arith
          | inr through ↦ no_child 0 None next through.0 (child_after nodes 0 through.0 through.1 None through.2.under refl)
        ])
    down-first (Some c) next =
        let own = after_child nodes 0 c None next.child in
        let inside = within nodes c (0, own.0) own.1 in
        down-child 0 (omega arith) (λ n. true) (λ n low here passes. all_behind n low here) (λ n low here behind. refl) c next
