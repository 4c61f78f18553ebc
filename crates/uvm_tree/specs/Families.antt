-- The nodes except the root, sorted by parent: the children of one node are adjacent, in byte order of their names.
use Rattle.std.specs.Prelude.{◌≡◌, ◌↔◌, ◌<◌, ℕ, Bool, true, false, not, ◌&&◌, ◌==◌, List, [], length, Contains, AllPairs, Option, Some, None, IfSome, IfNone, slice_get, option_and_then, if◌then◌else◌}
use Rattle.std.specs.declared.cmp.Ordering.{Ordering}
use Rattle.std.specs.declared.cmp.Ordering.TheVariants.{Less}
use Rattle.std.specs.Cmp.Lexicographic.{slice_cmp}
use Rattle.std.specs.Option.{option_map_or, option_cmp}
use Rattle.std.specs.Ordering.{is_lt, is_gt, nat_cmp, ordering_then}
use Rattle.uvm_tree.specs.Nodes.{Node, under_at}
use Rattle.uvm_tree.specs.Children.{is_named_before, is_under, name_at}

-- a place: the number of a parent, and a name under it
abbrev pub Place : Type 0
Place = ℕ × List ℕ

-- how two places compare: by the numbers of the parents, then by the names
abbrev pub place_cmp : Place → Place → Ordering
place_cmp a b = ordering_then (nat_cmp a.0 b.0) (slice_cmp nat_cmp a.1 b.1)

-- the place of a node; for the root an empty name under the root
abbrev pub place_at : List Node → ℕ → Place
place_at nodes n = option_map_or (λ under. under) (under_at nodes n) (0, [])

-- each node except the root is in the list once, before the nodes whose places follow its own
pub record AreFamilies (nodes : List Node) (families : List ℕ) : Type 0 where
  pub members : (n : ℕ) → Contains families n ↔ ((0 < n) × (n < length nodes))
  pub ordered : AllPairs (λ m n. place_cmp (place_at nodes m) (place_at nodes n) ≡ Less) families

-- whether the place of a node precedes a given place
abbrev pub is_in_front : List Node → Place → ℕ → Bool
is_in_front nodes place n = is_lt (place_cmp (place_at nodes n) place)

-- whether the place of a node precedes a given place or equals it
abbrev pub is_upto : List Node → Place → ℕ → Bool
is_upto nodes place n = not (is_gt (place_cmp (place_at nodes n) place))

-- whether a node precedes the children of `parent` that are named after `name`, or all its children if no name is given
abbrev pub is_passed : List Node → ℕ → Option (List ℕ) → ℕ → Bool
is_passed nodes parent None n = is_in_front nodes (parent, []) n
is_passed nodes parent (Some name) n = is_upto nodes (parent, name) n

-- the node at an index of a list, if it is a child of a given node
abbrev pub child_in : List Node → List ℕ → ℕ → ℕ → Option ℕ
child_in nodes families parent place = option_and_then (λ n. if (place_at nodes n).0 == parent then Some n else None) (slice_get families place)

-- whether a node is a child of another, and its name follows a given name, if one is given
abbrev pub is_child_after : List Node → ℕ → Option (List ℕ) → ℕ → Bool
is_child_after nodes parent after n = is_under nodes parent n && is_lt (option_cmp (slice_cmp nat_cmp) after (name_at nodes n))

-- `found` is the child of a node whose name is the next after a given name, or the first child if none is given; `None` if there is no
-- such child
pub record IsNextChild (nodes : List Node) (parent : ℕ) (after : Option (List ℕ)) (found : Option ℕ) : Type 0 where
  pub none : IfNone found ((n : ℕ) → is_child_after nodes parent after n ≡ false)
  pub child : IfSome found (λ c. is_child_after nodes parent after c ≡ true)
  pub first : IfSome found (λ c. (n : ℕ) → is_child_after nodes parent after n ≡ true → is_named_before nodes n c ≡ false)
