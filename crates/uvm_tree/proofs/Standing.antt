-- Where the children of a node stand among the nodes family by family.
use Rattle.uvm_tree.proofs.Common.{◌≡◌, ◌<◌, ◌≤◌, ℕ, zero, suc, Bool, true, false, not, List, [], ◌∷◌, length, get_or, Option, Some, None, refl, ap, ◌∙◌, sym, subst, inl, inr, arith, IsSome, option_and_then, if◌then◌else◌, slice_get, eq-eqb, cases_lt, eqb-true, nat_tests, nat_cmp_total, nat_list_cmp_total, on_total, then_total, tied_itself, upto, exact_bytes, exact_pairs, exact_unsigned, Contains, Ordering, Less, Equal, Greater, IsTotalOrder, slice_cmp, IsPartitionedBy, IsPartitionPoint, option_map_or, is_gt, is_lt, nat_cmp, ordering_reverse, Node, AreNodes, under_at, is_named_before, AreFamilies, IsNextChild, Place, child_in, is_child_after, is_in_front, is_passed, is_upto, place_at, place_cmp, ◌==◌}
use Rattle.uvm_tree.proofs.Grown.{within}
use Rattle.uvm_tree.proofs.Least.{not_true}
use Rattle.uvm_tree.proofs.Kin.{after_child, before_by_name, child_after, follows, place-is}

pub place_total : IsTotalOrder place_cmp
place_total = then_total (on_total (λ (p : Place). p.0) nat_cmp_total) (on_total (λ (p : Place). p.1) nat_list_cmp_total)

pub exact_place : (a b : Place) → place_cmp a b ≡ Equal → a ≡ b
exact_place = exact_pairs nat_cmp (slice_cmp nat_cmp) exact_unsigned exact_bytes

pub less : (o : Ordering) → is_lt o ≡ true → o ≡ Less
less Less e = refl
less Equal e = cc
less Greater e = cc

not_greater : (o : Ordering) → o ≡ Less → is_gt o ≡ false
not_greater o e = rw e refl

shown : (b : Bool) → not b ≡ true → b ≡ false
shown true e = cc
shown false e = refl

hidden : (b : Bool) → not b ≡ false → b ≡ true
hidden true e = refl
hidden false e = cc

-- what is read at a place
pub got : {A : Type 0} (xs : List A) (i : ℕ) (x d : A) → slice_get xs i ≡ Some x → (i < length xs) × (get_or xs i d ≡ x)
got [] i x d e = cc
got (y ∷ ys) zero x d e = let same : y ≡ x = cc in (omega arith, same)
got (y ∷ ys) (suc i) x d e = let rest = got ys i x d e in (omega (arith, rest.0), rest.1)

pub not_got : {A : Type 0} (xs : List A) (i : ℕ) → slice_get xs i ≡ None → length xs ≤ i
not_got [] i e = omega arith
not_got (y ∷ ys) zero e = cc
not_got (y ∷ ys) (suc i) e = let rest = not_got ys i e in omega arith

pub read : {A : Type 0} (xs : List A) (i : ℕ) (d : A) → i < length xs → slice_get xs i ≡ Some (get_or xs i d)
read [] i d h = absurd (omega arith)
read (y ∷ ys) zero d h = refl
read (y ∷ ys) (suc i) d h = read ys i d (omega arith)

module _ (nodes : List Node) (families : List ℕ) (are : AreFamilies nodes families) where
  pub in_front_parts : (place : Place) → IsPartitionedBy (is_in_front nodes place) families
  in_front_parts place i j d le inside front =
      elim (cases_lt i j) [
        | inl lt ↦
            let first = are.ordered i j d lt inside in
            let last = less (place_cmp (place_at nodes (get_or families j d)) place) front in
            ap is_lt (place_total.trans (place_at nodes (get_or families i d)) (place_at nodes (get_or families j d)) place first last)
        | inr ge ↦
            let same : j ≡ i = omega arith in
            subst (λ (k : ℕ). is_in_front nodes place (get_or families k d) ≡ true) same front
      ]

  pub upto_parts : (place : Place) → IsPartitionedBy (is_upto nodes place) families
  upto_parts place i j d le inside front =
      elim (cases_lt i j) [
        | inl lt ↦
            let first = not_greater (place_cmp (place_at nodes (get_or families i d)) (place_at nodes (get_or families j d))) (are.ordered i j d lt inside) in
            let last = shown (is_gt (place_cmp (place_at nodes (get_or families j d)) place)) front in
            ap not (upto place_total (place_at nodes (get_or families i d)) (place_at nodes (get_or families j d)) place first last)
        | inr ge ↦
            let same : j ≡ i = omega arith in
            subst (λ (k : ℕ). is_upto nodes place (get_or families k d) ≡ true) same front
      ]

-- how places stand whose nodes differ, or are one
lower : (m n : ℕ) → m < n → nat_cmp m n ≡ Less
lower m n low = grind (arith, nat_tests)

higher : (m n : ℕ) → n < m → nat_cmp m n ≡ Greater
higher m n high = grind (arith, nat_tests)

front-lower : (a b : Place) → a.0 < b.0 → place_cmp a b ≡ Less
front-lower a b low = rw (lower a.0 b.0 low) refl

back-higher : (a b : Place) → b.0 < a.0 → place_cmp a b ≡ Greater
back-higher a b high = rw (higher a.0 b.0 high) refl

by-names : (a b : Place) → a.0 ≡ b.0 → place_cmp a b ≡ slice_cmp nat_cmp a.1 b.1
by-names a b same =
    let tied : nat_cmp a.0 b.0 ≡ Equal = ap (nat_cmp a.0) (sym same) ∙ tied_itself nat_cmp_total a.0 in
    rw tied refl

-- what comes before another is below no later node
no-lower : (a b : Place) → place_cmp a b ≡ Less → a.0 ≤ b.0
no-lower a b e =
    elim (cases_lt b.0 a.0) [
      | inl high ↦ absurd (let f = back-higher a b high in cc)
      | inr le ↦ le
    ]

not-before-none : (name : List ℕ) → is_lt (slice_cmp nat_cmp name []) ≡ false
not-before-none [] = refl
not-before-none (b ∷ name) = refl

back : (o p : Ordering) → o ≡ ordering_reverse p → is_lt p ≡ true → is_gt o ≡ true
back o Less e h = rw e refl
back o Equal e h = cc
back o Greater e h = cc

forth : (o p : Ordering) → p ≡ ordering_reverse o → is_gt o ≡ true → is_lt p ≡ true
forth Less p e h = cc
forth Equal p e h = cc
forth Greater p e h = rw e refl

-- a child that comes after the name is not passed
not-passed : (nodes : List Node) (parent n : ℕ) (name : List ℕ) (after : Option (List ℕ)) → place_at nodes n ≡ (parent, name) → follows after name ≡ true → is_passed nodes parent after n ≡ false
not-passed nodes parent n name None is later = rw (is, by-names (parent, name) (parent, []) refl) (not-before-none name)
not-passed nodes parent n name (Some first) is later =
    let behind = back (slice_cmp nat_cmp name first) (slice_cmp nat_cmp first name) (nat_list_cmp_total.antisymm name first) later in
    rw (is, by-names (parent, name) (parent, first) refl) (ap not behind)

-- and one that is not passed comes after it
comes-after : (nodes : List Node) (parent n : ℕ) (name : List ℕ) (after : Option (List ℕ)) → place_at nodes n ≡ (parent, name) → is_passed nodes parent after n ≡ false → follows after name ≡ true
comes-after nodes parent n name None is left = refl
comes-after nodes parent n name (Some first) is left =
    let high : not (is_gt (slice_cmp nat_cmp name first)) ≡ false = rw (is, by-names (parent, name) (parent, first) refl) at left in
    forth (slice_cmp nat_cmp name first) (slice_cmp nat_cmp first name) (nat_list_cmp_total.antisymm first name) (hidden (is_gt (slice_cmp nat_cmp name first)) high)

-- what is not passed is below no earlier node
not-lower : (nodes : List Node) (parent n : ℕ) (after : Option (List ℕ)) → is_passed nodes parent after n ≡ false → parent ≤ (place_at nodes n).0
not-lower nodes parent n None left =
    elim (cases_lt (place_at nodes n).0 parent) [
      | inl low ↦ absurd (let f = ap is_lt (front-lower (place_at nodes n) (parent, []) low) in cc)
      | inr le ↦ le
    ]
not-lower nodes parent n (Some first) left =
    elim (cases_lt (place_at nodes n).0 parent) [
      | inl low ↦ absurd (let f = ap (λ o. not (is_gt o)) (front-lower (place_at nodes n) (parent, first) low) in cc)
      | inr le ↦ le
    ]

module _ (nodes : List Node) (families : List ℕ) (tree : AreNodes nodes) (are : AreFamilies nodes families) where
  -- a node under another stands at some index
  stands : (n : ℕ) (place : Place) → under_at nodes n ≡ Some place → Contains families n
  stands n place e =
      let low = tree.parents n place e in
      (are.members n).1 (omega arith, within nodes n place e)

  -- a node that stands there is under another
  pub has_place : (n : ℕ) → Contains families n → (place : Place) × (under_at nodes n ≡ Some place)
  has_place n held =
      let both = (are.members n).0 held in
      some_place (under_at nodes n) (tree.others n both.0 both.1)
    where
      some_place : (o : Option Place) → IsSome o → (place : Place) × (o ≡ Some place)
      some_place None h = cc
      some_place (Some place) h = (place, refl)

  -- the test of what stands at a place
  module _ (parent : ℕ) (after : Option (List ℕ)) (i : ℕ) (point : IsPartitionPoint (λ n. is_passed nodes parent after n ≡ true) (λ n. is_passed nodes parent after n ≡ false) families i) where
    -- a child that comes after the name stands at the place or behind it
    behind : (n : ℕ) → is_child_after nodes parent after n ≡ true → (j : ℕ) × (i ≤ j) × (j < length families) × (get_or families j n ≡ n)
    behind n is =
        let child = after_child nodes parent n after is in
        let held = stands n (parent, child.0) child.1 in
        let left = not-passed nodes parent n child.0 after (place-is nodes n (parent, child.0) child.1) child.2 in
        elim (cases_lt held.0 i) [
          | inl low ↦ absurd (
              let passed = point.0 held.0 n (omega arith) low in
              let same : is_passed nodes parent after (get_or families held.0 n) ≡ is_passed nodes parent after n = ap (is_passed nodes parent after) held.2 in
              cc)
          | inr high ↦ (held.0, high, held.1, held.2)
        ]

    -- the one at the place, where one stands there
    module _ (c : ℕ) (at : slice_get families i ≡ Some c) where
      here : Contains families c
      here = let is = got families i c c at in (i, is.0, is.1)

      own : (place : Place) × (under_at nodes c ≡ Some place)
      own = has_place c here

      is_left : is_passed nodes parent after c ≡ false
      is_left =
          let is = got families i c c at in
          ap (is_passed nodes parent after) (sym is.1) ∙ point.1 i c (omega arith) is.0

      low : parent ≤ own.0.0
      low = subst (λ (p : Place). parent ≤ p.0) (place-is nodes c own.0 own.1) (not-lower nodes parent c after is_left)

      -- a child behind it: its place is not before
      apart : (n : ℕ) (name : List ℕ) → under_at nodes n ≡ Some (parent, name) → (j : ℕ) → i < j → j < length families → get_or families j n ≡ n → place_cmp own.0 (parent, name) ≡ Less
      apart n name e j less_than inside is =
          let first = are.ordered i j n less_than inside in
          let read = (got families i c n at).1 in
          (λ k. place_cmp (sym (place-is nodes c own.0 own.1) k) (sym (place-is nodes n (parent, name) e) k)) ∙ (λ k. place_cmp (place_at nodes (sym read k)) (place_at nodes (sym is k))) ∙ first

      -- where a child comes after the name, this one is a child too
      one_parent : (n : ℕ) → is_child_after nodes parent after n ≡ true → own.0.0 ≡ parent
      one_parent n is =
          let child = after_child nodes parent n after is in
          let at_j = behind n is in
          elim (cases_lt i at_j.0) [
            | inl lt ↦
                let up = no-lower own.0 (parent, child.0) (apart n child.0 child.1 at_j.0 lt at_j.2 at_j.3) in
                let from = low in
                omega arith
            | inr ge ↦
                let same : at_j.0 ≡ i = omega arith in
                let one : n ≡ c = sym at_j.3 ∙ ap (λ k. get_or families k n) same ∙ (got families i c n at).1 in
                let places : Some own.0 ≡ Some (parent, child.0) = sym own.1 ∙ ap (under_at nodes) (sym one) ∙ child.1 in
                let equal : own.0 ≡ (parent, child.0) = cc in
                ap (λ (p : Place). p.0) equal
          ]

      -- and none of these stands before it
      least : (n : ℕ) → is_child_after nodes parent after n ≡ true → own.0.0 ≡ parent → is_named_before nodes n c ≡ false
      least n is under =
          let child = after_child nodes parent n after is in
          let mine : under_at nodes c ≡ Some (parent, own.0.1) = own.1 ∙ ap (λ (p : ℕ). Some (p, own.0.1)) under in
          let at_j = behind n is in
          before_by_name nodes parent n c child.0 own.0.1 child.1 mine ∙
          elim (cases_lt i at_j.0) [
            | inl lt ↦
                let first = sym (by-names own.0 (parent, child.0) under) ∙ apart n child.0 child.1 at_j.0 lt at_j.2 at_j.3 in
                ap is_lt (nat_list_cmp_total.antisymm child.0 own.0.1 ∙ ap ordering_reverse first)
            | inr ge ↦
                let same : at_j.0 ≡ i = omega arith in
                let one : n ≡ c = sym at_j.3 ∙ ap (λ k. get_or families k n) same ∙ (got families i c n at).1 in
                let places : Some (parent, own.0.1) ≡ Some (parent, child.0) = sym mine ∙ ap (under_at nodes) (sym one) ∙ child.1 in
                let equal : own.0.1 ≡ child.0 = ap (λ (o : Option Place). option_map_or (λ (u : Place). u.1) o []) places in
                ap is_lt (ap (slice_cmp nat_cmp child.0) equal ∙ tied_itself nat_list_cmp_total child.0)
          ]

    tested : (c : ℕ) → slice_get families i ≡ Some c → (b : Bool) → ((place_at nodes c).0 == parent) ≡ b → IsNextChild nodes parent after (if b then Some c else None)
    tested c at true test =
        let place = place-is nodes c (own c at).0 (own c at).1 in
        let under : (own c at).0.0 ≡ parent = ap (λ (p : Place). p.0) (sym place) ∙ eqb-true (place_at nodes c).0 parent test in
        let mine : under_at nodes c ≡ Some (parent, (own c at).0.1) = (own c at).1 ∙ ap (λ (p : ℕ). Some (p, (own c at).0.1)) under in
        let later = comes-after nodes parent c (own c at).0.1 after (place-is nodes c (parent, (own c at).0.1) mine) (is_left c at) in
        record {
          none = tt;
          child = child_after nodes parent c (own c at).0.1 after mine later;
          first = λ n is. least c at n is under;
        }
    tested c at false test =
        record {
          none = λ n. not_true (is_child_after nodes parent after n) (λ is.
              let place = place-is nodes c (own c at).0 (own c at).1 in
              let under = ap (λ (p : Place). p.0) place ∙ one_parent c at n is in
              let equal = eq-eqb (place_at nodes c).0 parent under in
              cc);
          child = tt;
          first = tt;
        }

    read_as : (o : Option ℕ) → slice_get families i ≡ o → IsNextChild nodes parent after (option_and_then (λ n. if (place_at nodes n).0 == parent then Some n else None) o)
    read_as None at =
        record {
          none = λ n. not_true (is_child_after nodes parent after n) (λ is. let at_j = behind n is in absurd (omega (arith, not_got families i at)));
          child = tt;
          first = tt;
        }
    read_as (Some c) at = tested c at ((place_at nodes c).0 == parent) refl

    pub next_child : IsNextChild nodes parent after (child_in nodes families parent i)
    next_child = read_as (slice_get families i) refl

  -- the child of a name is the first that does not stand in front of its place
  pub named_child : (place : Place) (i : ℕ) → IsPartitionPoint (λ n. is_in_front nodes place n ≡ true) (λ n. is_in_front nodes place n ≡ false) families i → (n : ℕ) → under_at nodes n ≡ Some place → slice_get families i ≡ Some n
  named_child place i point n e =
      let held = stands n place e in
      let is = place-is nodes n place e in
      let mine : is_in_front nodes place n ≡ false = rw is (ap is_lt (tied_itself place_total place)) in
      let at_j : is_in_front nodes place (get_or families held.0 n) ≡ false = ap (is_in_front nodes place) held.2 ∙ mine in
      elim (cases_lt held.0 i) [
        | inl low ↦ absurd (let front = point.0 held.0 n (omega arith) low in cc)
        | inr high ↦
            elim (cases_lt i held.0) [
              | inl lt ↦ absurd (
                  let first = are.ordered i held.0 n lt held.1 in
                  let before : place_cmp (place_at nodes (get_or families i n)) place ≡ Less = (λ k. place_cmp (place_at nodes (get_or families i n)) (sym is k)) ∙ (λ k. place_cmp (place_at nodes (get_or families i n)) (place_at nodes (sym held.2 k))) ∙ first in
                  let front = ap is_lt before in
                  let not_front = point.1 i n (omega arith) (omega arith) in
                  cc)
              | inr ge ↦
                  let same : i ≡ held.0 = omega arith in
                  read families i n (omega arith) ∙ ap (λ (x : ℕ). Some x) (ap (λ k. get_or families k n) same ∙ held.2)
            ]
      ]

  -- what stands at a place of the order, and below a node
  child_at : (parent i c : ℕ) (o : Option ℕ) → slice_get families i ≡ o → option_and_then (λ n. if (place_at nodes n).0 == parent then Some n else None) o ≡ Some c → (slice_get families i ≡ Some c) × ((place_at nodes c).0 ≡ parent)
  child_at parent i c None at e = cc
  child_at parent i c (Some n) at e = by_test ((place_at nodes n).0 == parent) refl e
    where
      by_test : (b : Bool) → ((place_at nodes n).0 == parent) ≡ b → (if b then Some n else None) ≡ Some c → (slice_get families i ≡ Some c) × ((place_at nodes c).0 ≡ parent)
      by_test true test is = let same : n ≡ c = cc in (at ∙ ap (λ (k : ℕ). Some k) same, ap (λ k. (place_at nodes k).0) (sym same) ∙ eqb-true (place_at nodes n).0 parent test)
      by_test false test is = cc

  child_kept : (parent i n : ℕ) (o : Option ℕ) → o ≡ Some n → (place_at nodes n).0 ≡ parent → option_and_then (λ n. if (place_at nodes n).0 == parent then Some n else None) o ≡ Some n
  child_kept parent i n None at under = cc
  child_kept parent i n (Some m) at under =
      let same : m ≡ n = cc in
      let test : ((place_at nodes m).0 == parent) ≡ true = eq-eqb (place_at nodes m).0 parent (ap (λ k. (place_at nodes k).0) same ∙ under) in
      rw test (ap (λ (k : ℕ). Some k) same)

  -- the child of a name, where one is found
  pub child_found : (parent i c above : ℕ) (name own : List ℕ) → child_in nodes families parent i ≡ Some c → (above, own) ≡ place_at nodes c → own ≡ name → under_at nodes c ≡ Some (parent, name)
  child_found parent i c above name own e place same =
      let at = child_at parent i c (slice_get families i) refl e in
      let is = got families i c c at.0 in
      let own_place = has_place c (i, is.0, is.1) in
      let whole : own_place.0 ≡ (above, own) = sym (place-is nodes c own_place.0 own_place.1) ∙ sym place in
      let under : above ≡ parent = ap (λ (p : Place). p.0) place ∙ at.1 in
      own_place.1 ∙ ap (λ (p : Place). Some p) whole ∙ (λ k. Some (under k, same k))

  module _ (parent : ℕ) (name : List ℕ) (i : ℕ) (point : IsPartitionPoint (λ n. is_in_front nodes (parent, name) n ≡ true) (λ n. is_in_front nodes (parent, name) n ≡ false) families i) where
    -- and where none is
    kept : (n : ℕ) → under_at nodes n ≡ Some (parent, name) → child_in nodes families parent i ≡ Some n
    kept n e = child_kept parent i n (slice_get families i) (named_child (parent, name) i point n e) (ap (λ (p : Place). p.0) (place-is nodes n (parent, name) e))

    pub child_none : child_in nodes families parent i ≡ None → (n : ℕ) → under_at nodes n ≡ Some (parent, name) → ⊥
    child_none none n e = let some = kept n e in cc

    pub child_other : (c above : ℕ) (own : List ℕ) → child_in nodes families parent i ≡ Some c → (above, own) ≡ place_at nodes c → (own ≡ name → ⊥) → (n : ℕ) → under_at nodes n ≡ Some (parent, name) → ⊥
    child_other c above own found place other n e =
        let some = kept n e in
        let same : n ≡ c = cc in
        let mine : (above, own) ≡ (parent, name) = place ∙ ap (place_at nodes) (sym same) ∙ place-is nodes n (parent, name) e in
        other (ap (λ (p : Place). p.1) mine)
