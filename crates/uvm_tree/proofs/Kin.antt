-- Which nodes are the children of a node, and their names.
use Rattle.uvm_tree.proofs.Common.{◌≡◌, ℕ, Bool, true, false, ◌&&◌, List, [], Option, Some, None, refl, ap, option_and_then, option_map, eq-eqb, eqb-true, slice_cmp, option_cmp, option_map_or, is_lt, nat_cmp, Node, node_at, parent_of, under_at, is_named_before, is_under, name_at, own_name, Place, is_child_after, place_at, ◌==◌}

pub both-true : (a b : Bool) → (a && b) ≡ true → (a ≡ true) × (b ≡ true)
both-true true true e = (refl, refl)
both-true true false e = cc
both-true false b e = cc

-- a name comes after another, if one is given
abbrev pub follows : Option (List ℕ) → List ℕ → Bool
follows after name = is_lt (option_cmp (slice_cmp nat_cmp) after (Some name))

under_parent : (parent : ℕ) (u : Option Place) → option_map_or (λ above. above == parent) (option_map (λ (under : Place). under.0) u) false ≡ true → (name : List ℕ) × (u ≡ Some (parent, name)) × (option_map (λ (under : Place). under.1) u ≡ Some name)
under_parent parent None e = cc
under_parent parent (Some under) e = (under.1, ap (λ (above : ℕ). Some (above, under.1)) (eqb-true under.0 parent e), refl)

of_node : (parent : ℕ) (o : Option Node) → option_map_or (λ above. above == parent) (option_and_then parent_of o) false ≡ true → (name : List ℕ) × (option_and_then (λ (node : Node). node.under) o ≡ Some (parent, name)) × (option_and_then own_name o ≡ Some name)
of_node parent None e = cc
of_node parent (Some node) e = under_parent parent node.under e

-- a child has a name under its parent
pub named : (nodes : List Node) (parent n : ℕ) → is_under nodes parent n ≡ true → (name : List ℕ) × (under_at nodes n ≡ Some (parent, name)) × (name_at nodes n ≡ Some name)
named nodes parent n e = of_node parent (node_at nodes n) e

under_back : (parent : ℕ) (name : List ℕ) (u : Option Place) → u ≡ Some (parent, name) → (option_map_or (λ above. above == parent) (option_map (λ (under : Place). under.0) u) false ≡ true) × (option_map (λ (under : Place). under.1) u ≡ Some name)
under_back parent name None e = cc
under_back parent name (Some under) e =
    let first : under.0 ≡ parent = cc in
    let second : under.1 ≡ name = cc in
    (eq-eqb under.0 parent first, ap (λ (x : List ℕ). Some x) second)

node_back : (parent : ℕ) (name : List ℕ) (o : Option Node) → option_and_then (λ (node : Node). node.under) o ≡ Some (parent, name) → (option_map_or (λ above. above == parent) (option_and_then parent_of o) false ≡ true) × (option_and_then own_name o ≡ Some name)
node_back parent name None e = cc
node_back parent name (Some node) e = under_back parent name node.under e

pub is_child : (nodes : List Node) (parent n : ℕ) (name : List ℕ) → under_at nodes n ≡ Some (parent, name) → is_under nodes parent n ≡ true
is_child nodes parent n name e = (node_back parent name (node_at nodes n) e).0

pub name_is : (nodes : List Node) (parent n : ℕ) (name : List ℕ) → under_at nodes n ≡ Some (parent, name) → name_at nodes n ≡ Some name
name_is nodes parent n name e = (node_back parent name (node_at nodes n) e).1

-- a child whose name comes after a name
pub child_after : (nodes : List Node) (parent n : ℕ) (name : List ℕ) (after : Option (List ℕ)) → under_at nodes n ≡ Some (parent, name) → follows after name ≡ true → is_child_after nodes parent after n ≡ true
child_after nodes parent n name after e later =
    rw (is_child nodes parent n name e, name_is nodes parent n name e) later

pub after_child : (nodes : List Node) (parent n : ℕ) (after : Option (List ℕ)) → is_child_after nodes parent after n ≡ true → (name : List ℕ) × (under_at nodes n ≡ Some (parent, name)) × (follows after name ≡ true)
after_child nodes parent n after e =
    let both = both-true _ _ e in
    let is = named nodes parent n both.0 in
    (is.0, is.1, rw is.2 at both.1)

-- two children by their names
pub before_by_name : (nodes : List Node) (parent m n : ℕ) (a b : List ℕ) → under_at nodes m ≡ Some (parent, a) → under_at nodes n ≡ Some (parent, b) → is_named_before nodes m n ≡ is_lt (slice_cmp nat_cmp a b)
before_by_name nodes parent m n a b e f = rw (name_is nodes parent m a e, name_is nodes parent n b f) refl

-- the place of a node
pub place-is : (nodes : List Node) (n : ℕ) (place : Place) → under_at nodes n ≡ Some place → place_at nodes n ≡ place
place-is nodes n place e = ap (λ (o : Option Place). option_map_or (λ under. under) o (0, [])) e

-- a node that has a parent has a name under it
parent_place : (parent : ℕ) (o : Option Node) → option_and_then parent_of o ≡ Some parent → (name : List ℕ) × (option_and_then (λ (node : Node). node.under) o ≡ Some (parent, name)) × (option_and_then own_name o ≡ Some name)
parent_place parent None e = cc
parent_place parent (Some node) e = parent_under parent node.under e
  where
    parent_under : (parent : ℕ) (u : Option Place) → option_map (λ (under : Place). under.0) u ≡ Some parent → (name : List ℕ) × (u ≡ Some (parent, name)) × (option_map (λ (under : Place). under.1) u ≡ Some name)
    parent_under parent None e = cc
    parent_under parent (Some under) e = let same : under.0 ≡ parent = cc in (under.1, ap (λ (above : ℕ). Some (above, under.1)) same, refl)

pub has_parent : (nodes : List Node) (n parent : ℕ) → option_and_then parent_of (node_at nodes n) ≡ Some parent → (name : List ℕ) × (under_at nodes n ≡ Some (parent, name)) × (name_at nodes n ≡ Some name)
has_parent nodes n parent e = parent_place parent (node_at nodes n) e

-- and one that has none stands under none
no_place : (o : Option Node) → option_and_then parent_of o ≡ None → option_and_then (λ (node : Node). node.under) o ≡ None
no_place None e = refl
no_place (Some node) e = no_under node.under e
  where
    no_under : (u : Option Place) → option_map (λ (under : Place). under.0) u ≡ None → u ≡ None
    no_under None e = refl
    no_under (Some under) e = cc

pub no_parent : (nodes : List Node) (n : ℕ) → option_and_then parent_of (node_at nodes n) ≡ None → under_at nodes n ≡ None
no_parent nodes n e = no_place (node_at nodes n) e
