-- One more node.
use Rattle.uvm_tree.proofs.Common.{◌≡◌, ◌<◌, ◌≤◌, ℕ, zero, suc, ◌+◌, Bool, true, false, ◌&&◌, ◌||◌, nat_eq, List, [], ◌∷◌, ◌++◌, Option, Some, None, IsSome, Result, Ok, Err, OnOk, OnErr, is_none, length, refl, subst, ap, ◌∙◌, sym, inl, inr, arith, eq-eqb, option_and_then, ◌⊎◌, cases_lt, nat_list_eq_equiv, length_push, same_from_push, slice_get_within, pointwise, list_any, option_map_or, first_given, fault_if, TreeFault, NoParent, NameTaken, TooDeep, Full, NodeKind, Node, AreNodes, AreSiblingsApart, NodesGrow, add_fault, child, is_child, most_nodes, node_at, path_at, top, under_at, ◌==◌}
use borrow.Author.Tests.{ltb-false}

-- the nodes before one more are what they were
before : (nodes : List Node) (x : Node) (id : ℕ) → id < length nodes → node_at (nodes ++ x ∷ []) id ≡ node_at nodes id
before [] x id h = absurd (omega arith)
before (y ∷ ys) x zero h = refl
before (y ∷ ys) x (suc id) h = before ys x id (omega arith)

-- and it is the last
last : (nodes : List Node) (x : Node) → node_at (nodes ++ x ∷ []) (length nodes) ≡ Some x
last [] x = refl
last (y ∷ ys) x = last ys x

pub within : (nodes : List Node) (id : ℕ) (under : ℕ × List ℕ) → under_at nodes id ≡ Some under → id < length nodes
within [] id under e = cc
within (x ∷ xs) zero under e = omega arith
within (x ∷ xs) (suc id) under e = let h = within xs id under e in omega arith

-- a place is that of the child of a name
abbrev is_named : ℕ → List ℕ → Option (ℕ × List ℕ) → Bool
is_named parent name place = option_map_or (λ under. under.0 == parent && pointwise nat_eq under.1 name) place false

-- a node that stands somewhere is the child of its name there
itself : (under : ℕ × List ℕ) → is_named under.0 under.1 (Some under) ≡ true
itself under = rw (eq-eqb under.0 under.0 refl) (nat_list_eq_equiv.refl under.1)

or_true : (a b : Bool) → b ≡ true → (a || b) ≡ true
or_true true b e = refl
or_true false b e = e

pub is_taken : (nodes : List Node) (id : ℕ) (under : ℕ × List ℕ) → under_at nodes id ≡ Some under → list_any (is_child under.0 under.1) nodes ≡ true
is_taken [] id under e = cc
is_taken (x ∷ xs) zero under e =
    let here : is_child under.0 under.1 x ≡ true = ap (is_named under.0 under.1) e ∙ itself under in
    ap (λ b. b || list_any (is_child under.0 under.1) xs) here
is_taken (x ∷ xs) (suc id) under e = or_true _ _ (is_taken xs id under e)

module _ (nodes : List Node) (are : AreNodes nodes) where
  pub some_nodes : 0 < length nodes
  some_nodes = slice_get_within nodes 0 top are.top_first

  -- no node has the path of a child whose name is not taken
  module _ (parent : ℕ) (name : List ℕ) (held : parent < length nodes) (free : list_any (is_child parent name) nodes ≡ false) where
    not_the_top : path_at nodes 0 ≡ path_at nodes parent ++ name ∷ [] → ⊥
    not_the_top e =
        let f : [] ≡ path_at nodes parent ++ name ∷ [] = ap (λ o. option_map_or (λ (node : Node). node.path) o []) (sym are.top_first) ∙ e in
        omega (arith, ap length f, length_push (path_at nodes parent) name)

    not_below : (id : ℕ) → id < length nodes → (o : Option (ℕ × List ℕ)) → under_at nodes id ≡ o → IsSome o → path_at nodes id ≡ path_at nodes parent ++ name ∷ [] → ⊥
    not_below id here None e some f = cc
    not_below id here (Some under) e some f =
        let low = are.parents id under e in
        let same = same_from_push _ _ _ _ (sym (are.paths id under e) ∙ f) in
        let above : under.0 ≡ parent = are.apart under.0 parent (omega arith) held same.0 in
        let taken = is_taken nodes id under e in
        let g : list_any (is_child under.0 under.1) nodes ≡ list_any (is_child parent name) nodes = λ i. list_any (is_child (above i) (same.1 i)) nodes in
        cc

    new_path : (id : ℕ) → id < length nodes → path_at nodes id ≡ path_at nodes parent ++ name ∷ [] → ⊥
    new_path zero here = not_the_top
    new_path (suc id) here = not_below (suc id) here (under_at nodes (suc id)) refl (are.others (suc id) (omega arith) here)

    module _ (kind : NodeKind) where
      abbrev new : Node
      new = child nodes parent name kind

      abbrev grown : List Node
      grown = nodes ++ new ∷ []

      path_before : (id : ℕ) → id < length nodes → path_at grown id ≡ path_at nodes id
      path_before id here = ap (λ o. option_map_or (λ (node : Node). node.path) o []) (before nodes new id here)

      pub under_before : (id : ℕ) → id < length nodes → under_at grown id ≡ under_at nodes id
      under_before id here = ap (option_and_then (λ (node : Node). node.under)) (before nodes new id here)

      path_last : (id : ℕ) → id ≡ length nodes → path_at grown id ≡ path_at nodes parent ++ name ∷ []
      path_last id e = ap (path_at grown) e ∙ ap (λ o. option_map_or (λ (node : Node). node.path) o []) (last nodes new)

      pub under_last : (id : ℕ) → id ≡ length nodes → under_at grown id ≡ Some (parent, name)
      under_last id e = ap (under_at grown) e ∙ ap (option_and_then (λ (node : Node). node.under)) (last nodes new)

      -- an old node, or the new one
      cases : (id : ℕ) → id < length grown → (id < length nodes) ⊎ (id ≡ length nodes)
      cases id h =
          elim (cases_lt id (length nodes)) [
            | inl old ↦ inl old
            | inr past ↦ inr (omega (arith, length_push nodes new))
          ]

      others : (id : ℕ) → 0 < id → id < length grown → IsSome (under_at grown id)
      others id low high =
          elim (cases id high) [
            | inl old ↦ rw (under_before id old) (are.others id low old)
            | inr e ↦ rw (under_last id e) refl
          ]

      parents : (id : ℕ) (under : ℕ × List ℕ) → under_at grown id ≡ Some under → under.0 < id
      parents id under e =
          elim (cases id (within grown id under e)) [
            | inl old ↦ are.parents id under (sym (under_before id old) ∙ e)
            | inr end ↦
                let is : Some (parent, name) ≡ Some under = sym (under_last id end) ∙ e in
                let f : parent ≡ under.0 = cc in
                omega arith
          ]

      paths : (id : ℕ) (under : ℕ × List ℕ) → under_at grown id ≡ Some under → path_at grown id ≡ path_at grown under.0 ++ under.1 ∷ []
      paths id under e =
          elim (cases id (within grown id under e)) [
            | inl old ↦
                let f = sym (under_before id old) ∙ e in
                let low = are.parents id under f in
                path_before id old ∙ are.paths id under f ∙ ap (λ path. path ++ under.1 ∷ []) (sym (path_before under.0 (omega arith)))
            | inr end ↦
                let is : Some (parent, name) ≡ Some under = sym (under_last id end) ∙ e in
                let f : parent ≡ under.0 = cc in
                let g : name ≡ under.1 = cc in
                path_last id end ∙ ap (λ path. path ++ name ∷ []) (sym (path_before parent held)) ∙ (λ i. path_at grown (f i) ++ g i ∷ [])
          ]

      apart : (m n : ℕ) → m < length grown → n < length grown → path_at grown m ≡ path_at grown n → m ≡ n
      apart m n here there e =
          elim (cases m here) [
            | inl old ↦
                elim (cases n there) [
                  | inl old' ↦ are.apart m n old old' (sym (path_before m old) ∙ e ∙ path_before n old')
                  | inr end' ↦ absurd (new_path m old (sym (path_before m old) ∙ e ∙ path_last n end'))
                ]
            | inr end ↦
                elim (cases n there) [
                  | inl old' ↦ absurd (new_path n old' (sym (path_before n old') ∙ sym e ∙ path_last m end))
                  | inr end' ↦ end ∙ sym end'
                ]
          ]

      one_more : AreNodes grown
      one_more = record {
        top_first = before nodes new 0 some_nodes ∙ are.top_first;
        others = others;
        parents = parents;
        paths = paths;
        apart = apart;
      }

held : (nodes : List Node) (id : ℕ) → is_none (node_at nodes id) ≡ false → id < length nodes
held [] id e = cc
held (x ∷ xs) zero e = omega arith
held (x ∷ xs) (suc id) e = let h = held xs id e in omega arith

-- where none of four faults is given, none is there
none_of : (a b c d : Bool) → first_given (fault_if a NoParent ∷ fault_if b NameTaken ∷ fault_if c TooDeep ∷ fault_if d Full ∷ []) ≡ None → (a ≡ false) × (b ≡ false) × (d ≡ false)
none_of true b c d e = cc
none_of false true c d e = cc
none_of false false true d e = cc
none_of false false false true e = cc
none_of false false false false e = (refl, refl, refl)

-- where a node may be added, its parent is there, and its name is not taken
pub held_parent : (nodes : List Node) (parent : ℕ) (name : List ℕ) → add_fault nodes parent name ≡ None → parent < length nodes
unfolding add_fault
held_parent nodes parent name free = held nodes parent (none_of _ _ _ _ free).0

pub free_name : (nodes : List Node) (parent : ℕ) (name : List ℕ) → add_fault nodes parent name ≡ None → list_any (is_child parent name) nodes ≡ false
unfolding add_fault
free_name nodes parent name free = (none_of _ _ _ _ free).1

-- a node that may be added is added, or none is
pub added : (nodes new : List Node) (parent : ℕ) (name : List ℕ) (kind : NodeKind) (r : Result ℕ TreeFault) → AreNodes nodes → add_fault nodes parent name ≡ None → OnOk r (new ≡ nodes ++ child nodes parent name kind ∷ []) → OnErr r (new ≡ nodes) → AreNodes new × (length new ≤ most_nodes + 1)
unfolding add_fault
added nodes new parent name kind (Ok id) are free is same =
    let none = none_of _ _ _ _ free in
    let room : length nodes ≤ most_nodes = ltb-false most_nodes (length nodes) none.2 in (
      subst AreNodes (sym is) (one_more nodes are parent name (held nodes parent none.0) none.1 kind),
      omega (arith, ap length is, length_push nodes (child nodes parent name kind)),
    )
added nodes new parent name kind (Err fault) are free is same =
    let none = none_of _ _ _ _ free in
    let room : length nodes ≤ most_nodes = ltb-false most_nodes (length nodes) none.2 in
    (subst AreNodes (sym same) are, omega (arith, ap length same))

-- two nodes of one name under one parent are one
pub siblings : AreSiblingsApart
siblings nodes are m n under e f =
    are.apart m n (within nodes m under e) (within nodes n under f) (are.paths m under e ∙ sym (are.paths n under f))

-- the top alone
alone : (id : ℕ) (under : ℕ × List ℕ) → under_at (top ∷ []) id ≡ Some under → ⊥
alone zero under e = cc
alone (suc id) under e = cc

only : (id : ℕ) → id < length (top ∷ []) → id ≡ 0
only id h = omega arith

top_alone : AreNodes (top ∷ [])
top_alone = record {
  top_first = refl;
  others = λ id low high. absurd (omega (arith, only id high));
  parents = λ id under e. absurd (alone id under e);
  paths = λ id under e. absurd (alone id under e);
  apart = λ m n here there e. only m here ∙ sym (only n there);
}

pub nodes_grow : NodesGrow
nodes_grow = record {
  begins = top_alone;
  added = λ nodes parent name kind are free. (added nodes (nodes ++ child nodes parent name kind ∷ []) parent name kind (Ok 0) are free refl tt).0;
}
