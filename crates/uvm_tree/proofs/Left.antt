-- The children that are left.
use Rattle.uvm_tree.proofs.Common.{◌≡◌, ◌<◌, ◌≤◌, ◌+◌, ◌-◌, ℕ, zero, suc, Bool, true, false, not, ◌&&◌, List, [], ◌∷◌, ◌++◌, Option, Some, None, filter, length, refl, ap, ◌∙◌, sym, subst, arith, option_map, option_and_then, and-true, eqb-true, eqb-false, All-contains, All-head, All-tail, filter_agree, filter_passes, IsPermutation-refl, IsPermutation-filter_both, length_permutation, nat_list_cmp_total, on_total, tied_itself, exact_bytes, Ordering, Less, Equal, Greater, IsTotalOrder, slice_cmp, options_total, range_with_len, option_cmp, option_map_or, option_or, is_lt, nat_cmp, ordering_reverse, CursorValue, children_left, is_left, is_named_after, seen, ChildrenValue, GivesNextChild, all_children, children_of, is_under, is_named_before, name_at, own_name, IsLeast, numbers_of, IsNextChild, is_child_after, Node, AreNodes, node_at, parent_of, ◌==◌, All, IsPermutation}
use Rattle.uvm_tree.proofs.Grown.{within, siblings}
use Rattle.uvm_tree.proofs.Kin.{after_child, named}
use Rattle.uvm_tree.proofs.Least.{least-none, least-some}

-- a filter of a filter
twice-more : (p q : ℕ → Bool) (x : ℕ) (xs : List ℕ) → filter q (filter p xs) ≡ filter q xs → (q x ≡ true → p x ≡ true) → (a b : Bool) → p x ≡ a → q x ≡ b → filter q (filter p (x ∷ xs)) ≡ filter q (x ∷ xs)
twice-more p q x xs rest both true true e f = simp (e, f) (ap (λ ys. x ∷ ys) rest)
twice-more p q x xs rest both true false e f = simp (e, f) rest
twice-more p q x xs rest both false true e f = let g = both f in cc
twice-more p q x xs rest both false false e f = simp (e, f) rest

twice : (p q : ℕ → Bool) → ((n : ℕ) → q n ≡ true → p n ≡ true) → (xs : List ℕ) → filter q (filter p xs) ≡ filter q xs
twice p q both [] = refl
twice p q both (x ∷ xs) = twice-more p q x xs (twice p q both xs) (both x) (p x) (q x) refl refl

-- two tests that agree at each number of a list keep the same ones
agree-more : (p q : ℕ → Bool) (x : ℕ) (xs : List ℕ) → filter p xs ≡ filter q xs → (b : Bool) → p x ≡ b → q x ≡ b → filter p (x ∷ xs) ≡ filter q (x ∷ xs)
agree-more p q x xs rest true e f = simp (e, f) (ap (λ ys. x ∷ ys) rest)
agree-more p q x xs rest false e f = simp (e, f) rest

agree : (p q : ℕ → Bool) (xs : List ℕ) → All (λ x. p x ≡ q x) xs → filter p xs ≡ filter q xs
agree p q [] both = refl
agree p q (x ∷ xs) both =
    agree-more p q x xs (agree p q xs (All-tail (λ n. p n ≡ q n) x xs both)) (p x) refl (sym (All-head (λ n. p n ≡ q n) x xs both))

-- a number stands once in a range
abbrev is : ℕ → ℕ → Bool
is c n = n == c

nowhere-more : (c a : ℕ) (xs : List ℕ) → c < a → filter (is c) xs ≡ [] → (b : Bool) → is c a ≡ b → filter (is c) (a ∷ xs) ≡ []
nowhere-more c a xs low rest true e = let same = eqb-true a c e in absurd (omega arith)
nowhere-more c a xs low rest false e = simp e rest

nowhere : (c a n : ℕ) → c < a → filter (is c) (range_with_len a n) ≡ []
nowhere c a zero low = refl
nowhere c a (suc n) low = nowhere-more c a (range_with_len (a + 1) n) low (nowhere c (a + 1) n (omega arith)) (is c a) refl

once-more : (c a n : ℕ) → (is c a ≡ false → filter (is c) (range_with_len (a + 1) n) ≡ c ∷ []) → (b : Bool) → is c a ≡ b → filter (is c) (range_with_len a (suc n)) ≡ c ∷ []
once-more c a n rest true e =
    let same = eqb-true a c e in
    simp e (λ i. same i ∷ nowhere c (a + 1) n (omega arith) i)
once-more c a n rest false e = simp e (rest e)

once : (c a n : ℕ) → a ≤ c → c < a + n → filter (is c) (range_with_len a n) ≡ c ∷ []
once c a zero low high = absurd (omega arith)
once c a (suc n) low high =
    once-more c a n (λ e. let other = eqb-false a c e in once c (a + 1) n (omega arith) (omega arith)) (is c a) refl

-- the order of the nodes by their names
module _ (nodes : List Node) where
  abbrev by_name : ℕ → ℕ → Ordering
  by_name m n = option_cmp (slice_cmp nat_cmp) (name_at nodes m) (name_at nodes n)

  by_name_total : IsTotalOrder by_name
  by_name_total = on_total (name_at nodes) (options_total nat_list_cmp_total)

is_less : (o : Ordering) → is_lt o ≡ true → o ≡ Less
is_less Less e = refl
is_less Equal e = cc
is_less Greater e = cc

both-true : (a b : Bool) → (a && b) ≡ true → (a ≡ true) × (b ≡ true)
both-true true b e = (refl, e)
both-true false b e = cc

and_true : (a b : Bool) → a ≡ true → b ≡ true → (a && b) ≡ true
and_true true b e f = f
and_true false b e f = e

-- what comes after a child that is left comes after the last one given
later : (nodes : List Node) (last : Option ℕ) (c n : ℕ) → is_named_after nodes last c ≡ true → is_named_before nodes c n ≡ true → is_named_after nodes last n ≡ true
later nodes None c n first second = refl
later nodes (Some m) c n first second = ap is_lt ((by_name_total nodes).trans m c n (is_less _ first) (is_less _ second))

-- a child stands under its parent by its name
under_parent : (parent : ℕ) (u : Option (ℕ × List ℕ)) → option_map_or (λ above. above == parent) (option_map (λ (under : ℕ × List ℕ). under.0) u) false ≡ true → (name : List ℕ) × (u ≡ Some (parent, name)) × (option_map (λ (under : ℕ × List ℕ). under.1) u ≡ Some name)
under_parent parent None e = cc
under_parent parent (Some under) e = (under.1, ap (λ (above : ℕ). Some (above, under.1)) (eqb-true under.0 parent e), refl)

of_node : (parent : ℕ) (o : Option Node) → option_map_or (λ above. above == parent) (option_and_then parent_of o) false ≡ true → (name : List ℕ) × (option_and_then (λ (node : Node). node.under) o ≡ Some (parent, name)) × (option_and_then own_name o ≡ Some name)
of_node parent None e = cc
of_node parent (Some node) e = under_parent parent node.under e

same_name : (m n : Option (List ℕ)) (a b : List ℕ) → m ≡ Some a → n ≡ Some b → option_cmp (slice_cmp nat_cmp) m n ≡ Equal → a ≡ b
same_name m n a b e f tied = exact_bytes a b ((λ i. option_cmp (slice_cmp nat_cmp) (sym e i) (sym f i)) ∙ tied)

-- two children of one parent whose names are equal are one
one_child : (nodes : List Node) → AreNodes nodes → (parent m n : ℕ) → is_under nodes parent m ≡ true → is_under nodes parent n ≡ true → by_name nodes m n ≡ Equal → m ≡ n
one_child nodes are parent m n first second tied =
    let here = of_node parent (node_at nodes m) first in
    let there = of_node parent (node_at nodes n) second in
    let same = same_name (name_at nodes m) (name_at nodes n) here.0 there.0 here.2 there.2 tied in
    siblings nodes are m n (parent, there.0) (here.1 ∙ (λ i. Some (parent, same i))) there.1

module _ (s : CursorValue) (are : AreNodes s.nodes) (c : ℕ) (found : IsLeast (is_named_before s.nodes) (children_left s) (Some c)) where
  abbrev after : CursorValue
  after = record { nodes = s.nodes; parent = s.parent; last = Some c }

  passes : All (λ n. is_left s n ≡ true) (children_left s)
  passes = filter_passes (is_left s) (numbers_of s.nodes)

  was : (is_under s.nodes s.parent c ≡ true) × (is_named_after s.nodes s.last c ≡ true)
  was = both-true _ _ (All-contains (λ n. is_left s n ≡ true) (children_left s) c passes found.member)

  still_left : (n : ℕ) → is_left after n ≡ true → is_left s n ≡ true
  still_left n e =
      let there = both-true _ _ e in
      and_true _ _ there.0 (later s.nodes s.last c n was.1 there.1)

  -- of the children that are left, all but the one given are left afterwards
  other_than : (n : ℕ) (o : Ordering) → by_name s.nodes c n ≡ o → is_under s.nodes s.parent n ≡ true → is_named_before s.nodes n c ≡ false → (b : Bool) → is c n ≡ b → is_lt o ≡ not b
  other_than n Less e under first true f =
      let g : by_name s.nodes c n ≡ Equal = ap (by_name s.nodes c) (eqb-true n c f) ∙ tied_itself (by_name_total s.nodes) c in
      cc
  other_than n Less e under first false f = refl
  other_than n Equal e under first true f = refl
  other_than n Equal e under first false f = absurd (eqb-false n c f (sym (one_child s.nodes are s.parent c n was.0 under e)))
  other_than n Greater e under first b f =
      let g : is_named_before s.nodes n c ≡ true = ap is_lt ((by_name_total s.nodes).antisymm n c ∙ ap ordering_reverse e) in
      cc

  others_left : (n : ℕ) → is_left s n ≡ true → is_named_before s.nodes n c ≡ false → is_left after n ≡ not (is c n)
  others_left n left first =
      let under = (both-true _ _ left).0 in
      ap (λ b. b && is_named_before s.nodes c n) under ∙ other_than n (by_name s.nodes c n) refl under first (is c n) refl

  left_after : children_left after ≡ filter (λ n. not (is c n)) (children_left s)
  left_after =
      sym (twice (is_left s) (is_left after) still_left (numbers_of s.nodes))
      ∙ agree (is_left after) (λ n. not (is c n)) (children_left s) (λ k d h. others_left _ (passes k d h) (found.first k d h))

  in_range : (1 ≤ c) × (c < 1 + (length s.nodes - 1))
  in_range =
      let under = of_node s.parent (node_at s.nodes c) was.0 in
      let here = within s.nodes c (s.parent, under.0) under.1 in
      let low = are.parents c (s.parent, under.0) under.1 in
      (omega arith, omega arith)

  given : filter (is c) (children_left s) ≡ c ∷ []
  given =
      twice (is_left s) (is c) (λ n e. ap (is_left s) (eqb-true n c e) ∙ and_true _ _ was.0 was.1) (numbers_of s.nodes)
      ∙ once c 1 (length s.nodes - 1) in_range.0 in_range.1

  others : IsPermutation (children_left s) (c ∷ children_left after)
  others =
      let both = IsPermutation-filter_both (is c) (λ n. not (is c n)) (λ n. refl) (children_left s) in
      subst (IsPermutation (children_left s)) (λ i. given i ++ sym left_after i) both

pub gives_next_child : (s : CursorValue) (given : Option ℕ) (t : CursorValue) → AreNodes s.nodes → IsLeast (is_named_before s.nodes) (children_left s) given → t ≡ record { nodes = s.nodes; parent = s.parent; last = option_or given s.last } → GivesNextChild (seen s) given (seen t)
gives_next_child s None t are found e = record { least = found; others = rw e (IsPermutation-refl (children_left s)); rest = rw e refl }
gives_next_child s (Some c) t are found e = record { least = found; others = rw e (others s are c found); rest = rw e (ap (λ (left : List ℕ). record { nodes = s.nodes; left = left }) (left_after s are c found)) }

-- after a child was given fewer are left
pub fewer_left : (s : ChildrenValue) (c : ℕ) (t : ChildrenValue) → GivesNextChild s (Some c) t → length t.left < length s.left
fewer_left s c t gives = let same = length_permutation s.left (c ∷ t.left) gives.others in omega arith

-- the next child after the last is the least of those that are left
is_left_as : (nodes : List Node) (parent : ℕ) (last : Option ℕ) (after : Option (List ℕ)) → after ≡ option_and_then (name_at nodes) last → (n : ℕ) → is_left (record { nodes = nodes; parent = parent; last = last }) n ≡ is_child_after nodes parent after n
is_left_as nodes parent None after e n = by_test (is_under nodes parent n) refl
  where
    by_test : (b : Bool) → is_under nodes parent n ≡ b → (b && true) ≡ (b && is_lt (option_cmp (slice_cmp nat_cmp) after (name_at nodes n)))
    by_test true under = let name = named nodes parent n under in rw (e, name.2) refl
    by_test false under = refl
is_left_as nodes parent (Some m) after e n = rw e refl

pub least_child : (s : CursorValue) (after : Option (List ℕ)) (found : Option ℕ) → AreNodes s.nodes → after ≡ option_and_then (name_at s.nodes) s.last → IsNextChild s.nodes s.parent after found → IsLeast (is_named_before s.nodes) (children_left s) found
least_child s after None are e next =
    least-none (is_left s) (is_named_before s.nodes) s.nodes (λ n low here passes. let child = sym (is_left_as s.nodes s.parent s.last after e n) ∙ passes in let none = next.none n in cc)
least_child s after (Some c) are e next =
    let own = after_child s.nodes s.parent c after next.child in
    let low = are.parents c (s.parent, own.0) own.1 in
    least-some (is_left s) (is_named_before s.nodes) s.nodes c (omega arith) (within s.nodes c (s.parent, own.0) own.1) (is_left_as s.nodes s.parent s.last after e c ∙ next.child)
    (λ n first last passes. next.first n (sym (is_left_as s.nodes s.parent s.last after e n) ∙ passes))

-- at first all children are left
all_left : (nodes : List Node) (parent : ℕ) → children_left (record { nodes = nodes; parent = parent; last = None }) ≡ children_of nodes parent
all_left nodes parent = filter_agree (is_left (record { nodes = nodes; parent = parent; last = None })) (is_under nodes parent) (λ n. and-true (is_under nodes parent n)) (numbers_of nodes)

pub seen_all : (nodes : List Node) (parent : ℕ) → seen (record { nodes = nodes; parent = parent; last = None }) ≡ all_children nodes parent
seen_all nodes parent = ap (λ (left : List ℕ). record { nodes = nodes; left = left }) (all_left nodes parent)
