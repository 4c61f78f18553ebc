-- The families with one more node.
use Rattle.uvm_tree.proofs.Common.{◌≡◌, ◌<◌, ◌≤◌, ℕ, zero, suc, false, true, List, [], ◌∷◌, ◌++◌, length, get_or, Option, Some, None, rules, refl, ap, ◌∙◌, sym, inl, inr, arith, cases_lt, length_push, All-nil, All-cons, Contains-append_cases, Contains-append_right, Contains-get_or, AllPairs-cons, All-permutation, Contains-permutation, IsPermutation-insert, IsPermutation-sym, Contains, insert, list_any, IsPartitionPoint, Ordering, Less, Equal, Greater, option_map_or, is_lt, ordering_reverse, NodeKind, Node, AreNodes, add_fault, child, is_child, under_at, AreFamilies, Place, is_in_front, place_at, place_cmp, IsPermutation, All, AllPairs}
use Rattle.uvm_tree.proofs.Standing.{exact_place, has_place, less, place_total}
use Rattle.uvm_tree.proofs.Grown.{free_name, held_parent, is_taken, some_nodes, under_before, under_last}
use Rattle.uvm_tree.proofs.Kin.{place-is}

-- one more element between those that it comes after and those that come after it
insert-pairs : {X : Type 0} (R : X → X → Type 0) (x : X) (xs : List X) (i : ℕ) → AllPairs R xs → ((k : ℕ) (d : X) → k < i → k < length xs → R (get_or xs k d) x) → ((k : ℕ) (d : X) → i ≤ k → k < length xs → R x (get_or xs k d)) → AllPairs R (insert xs i x)
insert-pairs R x [] zero each lower upper = AllPairs-cons R x [] (All-nil (R x)) (λ i j d before within. absurd (omega arith))
insert-pairs R x [] (suc i) each lower upper = AllPairs-cons R x [] (All-nil (R x)) (λ i j d before within. absurd (omega arith))
insert-pairs R x (y ∷ ys) zero each lower upper = AllPairs-cons R x (y ∷ ys) (λ k d within. upper k d (omega arith) within) each
insert-pairs R x (y ∷ ys) (suc i) each lower upper =
    let first : All (R y) ys = λ k d within. each 0 (suc k) d (omega arith) (omega arith) in
    let rest : AllPairs R ys = λ k l d before within. each (suc k) (suc l) d (omega arith) (omega arith) in
    AllPairs-cons R y (insert ys i x)
    (All-permutation (R y) (x ∷ ys) (insert ys i x) (IsPermutation-insert ys i x) (All-cons (R y) x ys (lower 0 y (omega arith) (omega arith)) first))
    (insert-pairs R x ys i rest (λ k d low within. lower (suc k) d (omega arith) (omega arith)) (λ k d high within. upper (suc k) d (omega arith) (omega arith)))

only-one : {X : Type 0} (x n : X) → Contains (x ∷ []) n → n ≡ x
only-one x n held = at held.0 held.1 held.2
  where
    at : (k : ℕ) → k < length (x ∷ []) → get_or (x ∷ []) k n ≡ n → n ≡ x
    at zero within is = sym is
    at (suc k) within is = absurd (omega arith)

-- what is neither before a place nor at it is behind it
turned : (a b : Ordering) → a ≡ ordering_reverse b → is_lt a ≡ false → (a ≡ Equal → ⊥) → b ≡ Less
turned Less b e low none = cc
turned Equal b e low none = absurd (none refl)
turned Greater Less e low none = refl
turned Greater Equal e low none = cc
turned Greater Greater e low none = cc

module _ (nodes : List Node) (families : List ℕ) (tree : AreNodes nodes) (are : AreFamilies nodes families) (parent : ℕ) (name : List ℕ) (kind : NodeKind) (free : add_fault nodes parent name ≡ None) (i : ℕ) (point : IsPartitionPoint (λ n. is_in_front nodes (parent, name) n ≡ true) (λ n. is_in_front nodes (parent, name) n ≡ false) families i) where
  abbrev place : Place
  place = (parent, name)

  abbrev grown : List Node
  grown = nodes ++ child nodes parent name kind ∷ []

  abbrev more : List ℕ
  more = insert families i (length nodes)

  abbrev In-order : ℕ → ℕ → Type 0
  In-order m n = place_cmp (place_at grown m) (place_at grown n) ≡ Less

  taken : list_any (is_child parent name) nodes ≡ false
  taken = free_name nodes parent name free

  above : parent < length nodes
  above = held_parent nodes parent name free

  place_before : (n : ℕ) → n < length nodes → place_at grown n ≡ place_at nodes n
  place_before n old = ap (λ (o : Option Place). option_map_or (λ under. under) o (0, [])) (under_before nodes tree parent name above taken kind n old)

  place_last : place_at grown (length nodes) ≡ place
  place_last = place-is grown (length nodes) place (under_last nodes tree parent name above taken kind (length nodes) refl)

  in_range : (k : ℕ) (d : ℕ) → k < length families → get_or families k d < length nodes
  in_range k d within = ((are.members (get_or families k d)).0 (Contains-get_or families k d within)).1

  still : AllPairs In-order families
  still k l d before within =
      let here = place_before (get_or families k d) (in_range k d (omega arith)) in
      let there = place_before (get_or families l d) (in_range l d within) in
      (λ j. place_cmp (here j) (there j)) ∙ are.ordered k l d before within

  lower : (k : ℕ) (d : ℕ) → k < i → k < length families → In-order (get_or families k d) (length nodes)
  lower k d low within =
      let here = place_before (get_or families k d) (in_range k d within) in
      (λ j. place_cmp (here j) (place_last j)) ∙ less (place_cmp (place_at nodes (get_or families k d)) place) (point.0 k d (omega arith) low)

  other_place : (n : ℕ) → Contains families n → place_cmp (place_at nodes n) place ≡ Equal → ⊥
  other_place n held tied =
      let own = has_place nodes families tree are n held in
      let is = place-is nodes n own.0 own.1 in
      let same : own.0 ≡ place = sym is ∙ exact_place (place_at nodes n) place tied in
      let e : under_at nodes n ≡ Some place = own.1 ∙ ap (λ (p : Place). Some p) same in
      let there = is_taken nodes n place e in
      let not_there = taken in
      cc

  upper : (k : ℕ) (d : ℕ) → i ≤ k → k < length families → In-order (length nodes) (get_or families k d)
  upper k d high within =
      let n = get_or families k d in
      let there = place_before n (in_range k d within) in
      let turn = turned (place_cmp (place_at nodes n) place) (place_cmp place (place_at nodes n)) (place_total.antisymm (place_at nodes n) place) (point.1 k d high within) (other_place n (Contains-get_or families k d within)) in
      (λ j. place_cmp (place_last j) (there j)) ∙ turn

  moved : IsPermutation (length nodes ∷ families) more
  moved = IsPermutation-insert families i (length nodes)

  inside : (n : ℕ) → Contains more n → (0 < n) × (n < length grown)
  inside n held =
      elim (Contains-append_cases (length nodes ∷ []) families n (Contains-permutation more (length nodes ∷ families) n (IsPermutation-sym (length nodes ∷ families) more moved) held)) [
        | inl here ↦
            let is = only-one (length nodes) n here in
            (omega (arith, some_nodes nodes tree), omega (arith, length_push nodes (child nodes parent name kind)))
        | inr there ↦
            let both = (are.members n).0 there in
            (both.0, omega (arith, both.1, length_push nodes (child nodes parent name kind)))
      ]

  stands_there : (n : ℕ) → (0 < n) × (n < length grown) → Contains more n
  stands_there n both =
      Contains-permutation (length nodes ∷ families) more n moved
      (elim (cases_lt n (length nodes)) [
        | inl old ↦ Contains-append_right (length nodes ∷ []) families n ((are.members n).1 (both.0, old))
        | inr new ↦
            let is : length nodes ≡ n = omega (arith, both.1, length_push nodes (child nodes parent name kind)) in
            (0, search rules, is)
      ])

  pub families_grow : AreFamilies grown more
  families_grow = record {
    members = λ n. (inside n, stands_there n);
    ordered = insert-pairs In-order (length nodes) families i still lower upper;
  }
