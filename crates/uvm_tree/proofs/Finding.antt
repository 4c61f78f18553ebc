-- The node at a path.
use Rattle.uvm_tree.proofs.Common.{◌≡◌, ◌<◌, ◌≢◌, ℕ, zero, suc, Bool, true, false, List, [], ◌∷◌, ◌++◌, length, get_or, Option, Some, None, IfSome, IfNone, is_some, refl, ap, ◌∙◌, sym, inl, inr, arith, append_assoc, take, drop, take-append-drop, ◌+◌, ◌&&◌, ◌||◌, nat_eq, eqb-true, length_push, same_from_push, take_more, slice_get_within, position-Some, bytes_eq-Decides, slice_eq-Decides, list_any, pointwise, option_map_or, Node, AreNodes, is_child, is_path, node_at, number_at, path_at, top, under_at, Place, ◌==◌, append-nil}
use Rattle.uvm_tree.proofs.Below.{some_place, top-path}
use Rattle.uvm_tree.proofs.Firsts.{first-at, none-at}
use Rattle.uvm_tree.proofs.Grown.{is_taken, within}
use Rattle.uvm_tree.proofs.Kin.{both-true}
use Rattle.uvm_tree.proofs.Least.{not_true}
use Rattle.uvm_tree.proofs.Paths.{Names, ends}
use Rattle.uvm_tree.proofs.Standing.{not_got, read}

same_path : (p q : Names) → is_path p q ≡ true → p ≡ q
same_path p q = (slice_eq-Decides bytes_eq-Decides p q (is_path p q) refl).0

path_same : (p q : Names) → p ≡ q → is_path p q ≡ true
path_same p q = (slice_eq-Decides bytes_eq-Decides p q (is_path p q) refl).1

pub read_path : (nodes : List Node) (k : ℕ) (d : Node) → k < length nodes → path_at nodes k ≡ (get_or nodes k d).path
read_path nodes k d inside = ap (λ (o : Option Node). option_map_or (λ (node : Node). node.path) o []) (read nodes k d inside)

-- the child whose name is taken
child-is : (parent : ℕ) (name : List ℕ) (u : Option Place) → option_map_or (λ under. under.0 == parent && pointwise nat_eq under.1 name) u false ≡ true → u ≡ Some (parent, name)
child-is parent name None e = cc
child-is parent name (Some u) e =
    let both = both-true (u.0 == parent) (pointwise nat_eq u.1 name) e in
    let above = eqb-true u.0 parent both.0 in
    let same = (bytes_eq-Decides u.1 name).0 both.1 in
    λ i. Some (above i, same i)

taken-first : (parent : ℕ) (name : List ℕ) (x : Node) (xs : List Node) (b : Bool) → is_child parent name x ≡ b → ((b || list_any (is_child parent name) xs) ≡ true) → (list_any (is_child parent name) xs ≡ true → (n : ℕ) × (under_at xs n ≡ Some (parent, name))) → (n : ℕ) × (under_at (x ∷ xs) n ≡ Some (parent, name))
taken-first parent name x xs true here any rest = (0, child-is parent name x.under here)
taken-first parent name x xs false here any rest = let later = rest any in (suc later.0, later.1)

taken-by : (parent : ℕ) (name : List ℕ) (xs : List Node) → list_any (is_child parent name) xs ≡ true → (n : ℕ) × (under_at xs n ≡ Some (parent, name))
taken-by parent name [] any = cc
taken-by parent name (x ∷ xs) any = taken-first parent name x xs (is_child parent name x) refl any (taken-by parent name xs)

-- one more name of a path
pub one-further : (base path : Names) (all : Names) (k : ℕ) (name : List ℕ) → path ≡ base ++ take k all → k < length all → name ≡ get_or all k name → base ++ take (k + 1) all ≡ path ++ name ∷ []
one-further base path all k name is inside read =
    ap (λ (names : Names). base ++ names) (take_more all k name inside ∙ ap (λ (n : List ℕ). take k all ++ n ∷ []) (sym read))
    ∙ sym (append_assoc base (take k all) (name ∷ []))
    ∙ ap (λ (p : Names). p ++ name ∷ []) (sym is)

module _ (nodes : List Node) (tree : AreNodes nodes) where
  -- the node that has a path is at it
  pub number-is : (n : ℕ) (path : Names) → n < length nodes → path_at nodes n ≡ path → number_at nodes path ≡ Some n
  number-is n path inside is = by_node (node_at nodes n) refl
    where
      by_node : (o : Option Node) → node_at nodes n ≡ o → number_at nodes path ≡ Some n
      by_node None e = absurd (omega (arith, not_got nodes n e))
      by_node (Some node) e =
          let own : node.path ≡ path = ap (λ (o : Option Node). option_map_or (λ (node : Node). node.path) o []) (sym e) ∙ is in
          first-at (λ node. is_path node.path path) nodes n node e (path_same node.path path own)
          (λ k d low there. not_true (is_path (get_or nodes k d).path path) (λ passes.
          let other = read_path nodes k d there ∙ same_path (get_or nodes k d).path path passes in
          absurd (omega (arith, tree.apart k n there inside (other ∙ sym is)))))

  pub number-none : (path : Names) → ((n : ℕ) → n < length nodes → path_at nodes n ≡ path → ⊥) → number_at nodes path ≡ None
  number-none path never =
      none-at (λ node. is_path node.path path) nodes
      (λ k d there. not_true (is_path (get_or nodes k d).path path) (λ passes. never k there (read_path nodes k d there ∙ same_path (get_or nodes k d).path path passes)))

  -- and what is found has it
  pub found-at : (n : ℕ) (path : Names) → number_at nodes path ≡ Some n → (n < length nodes) × (path_at nodes n ≡ path)
  found-at n path e =
      by_node (node_at nodes n) refl
    where
      by_node : (o : Option Node) → node_at nodes n ≡ o → (n < length nodes) × (path_at nodes n ≡ path)
      by_node None f = absurd (let none = not_got nodes n f in let some = slice_get_within nodes 0 top tree.top_first in let found = position-Some (λ node. is_path node.path path) nodes n top e in omega (arith, found.0))
      by_node (Some node) f =
          let found = position-Some (λ node. is_path node.path path) nodes n node e in
          (found.0, read_path nodes n node found.0 ∙ same_path (get_or nodes n node).path path found.1)

  -- the child of a name is the node at its path
  at_child : (parent : ℕ) (name : List ℕ) → parent < length nodes → (n : ℕ) → n < length nodes → path_at nodes n ≡ path_at nodes parent ++ name ∷ [] → under_at nodes n ≡ Some (parent, name)
  at_child parent name there zero here is =
      absurd (let e : [] ≡ path_at nodes parent ++ name ∷ [] = sym (top-path nodes tree) ∙ is in omega (arith, ap length e, length_push (path_at nodes parent) name))
  at_child parent name there (suc n) here is =
      let u = some_place nodes tree (under_at nodes (suc n)) (tree.others (suc n) (omega arith) here) in
      let low = tree.parents (suc n) u.0 u.1 in
      let same = same_from_push _ _ _ _ (sym (tree.paths (suc n) u.0 u.1) ∙ is) in
      let above : u.0.0 ≡ parent = tree.apart u.0.0 parent (omega arith) there same.0 in
      u.1 ∙ (λ i. Some (above i, same.1 i))

  pub child-number : (parent : ℕ) (name : List ℕ) → parent < length nodes → (found : Option ℕ) → IfSome found (λ n. under_at nodes n ≡ Some (parent, name)) → IfNone found ((n : ℕ) → under_at nodes n ≢ Some (parent, name)) → found ≡ number_at nodes (path_at nodes parent ++ name ∷ [])
  child-number parent name there None some none = sym (number-none (path_at nodes parent ++ name ∷ []) (λ n here is. none n (at_child parent name there n here is)))
  child-number parent name there (Some n) some none = sym (number-is n (path_at nodes parent ++ name ∷ []) (within nodes n (parent, name) some) (tree.paths n (parent, name) some))

  -- where no node is at a path, none is at one that goes on from it
  above-upto : (k : ℕ) (path rest : Names) (n : ℕ) → n < k → n < length nodes → path_at nodes n ≡ path ++ rest → (above : ℕ) × (above < length nodes) × (path_at nodes above ≡ path)
  above-upto zero path rest n small here is = absurd (omega arith)
  above-upto (suc k) path rest zero small here is = (zero, here, top-path nodes tree ∙ sym (empty path rest (sym (top-path nodes tree) ∙ is)))
    where
      empty : (p r : Names) → [] ≡ p ++ r → p ≡ []
      empty [] r e = refl
      empty (x ∷ p) r e = cc
  above-upto (suc k) path rest (suc n) small here is =
      let u = some_place nodes tree (under_at nodes (suc n)) (tree.others (suc n) (omega arith) here) in
      let low = tree.parents (suc n) u.0 u.1 in
      elim (ends rest) [
        | inl none ↦ (suc n, here, is ∙ ap (λ (r : Names). path ++ r) none ∙ append-nil path)
        | inr some ↦
            let whole : path_at nodes u.0.0 ++ u.0.1 ∷ [] ≡ (path ++ some.0) ++ some.1 ∷ [] =
            sym (tree.paths (suc n) u.0 u.1) ∙ is ∙ ap (λ (r : Names). path ++ r) some.2 ∙ sym (append_assoc path some.0 (some.1 ∷ [])) in
            let same = same_from_push _ _ _ _ whole in
            above-upto k path some.0 u.0.0 (omega arith) (omega arith) same.0
      ]

  pub none-further : (path rest : Names) → number_at nodes path ≡ None → number_at nodes (path ++ rest) ≡ None
  none-further path rest none =
      number-none (path ++ rest) (λ n here is.
      let above = above-upto (suc n) path rest n (omega arith) here is in
      let found = number-is above.0 path above.1 above.2 in
      cc)

  -- a parent has a child of a name where one is found
  pub has-child : (parent : ℕ) (name : List ℕ) → (found : Option ℕ) → IfSome found (λ n. under_at nodes n ≡ Some (parent, name)) → IfNone found ((n : ℕ) → under_at nodes n ≢ Some (parent, name)) → is_some found ≡ list_any (is_child parent name) nodes
  has-child parent name (Some n) some none = sym (is_taken nodes n (parent, name) some)
  has-child parent name None some none = sym (not_true (list_any (is_child parent name) nodes) (λ any. let child = taken-by parent name nodes any in none child.0 child.1))

  -- where no node is at a part of a path, none is at the whole
  pub none-whole : (base all : Names) (k : ℕ) → number_at nodes (base ++ take k all) ≡ None → number_at nodes (base ++ all) ≡ None
  none-whole base all k none =
      let further = none-further (base ++ take k all) (drop k all) none in
      ap (number_at nodes) (ap (λ (names : Names). base ++ names) (sym (take-append-drop k all)) ∙ sym (append_assoc base (take k all) (drop k all))) ∙ further
