-- What stands below a node, and how it stands to what does not.
use Rattle.uvm_tree.proofs.Common.{◌≡◌, ◌<◌, ℕ, zero, suc, List, [], ◌∷◌, ◌++◌, length, Option, Some, None, IsSome, refl, ap, ◌∙◌, sym, subst, inl, inr, ◌⊎◌, arith, append_assoc, same_from_push, Less, option_map_or, Direction, order_of, Node, AreNodes, path_at, under_at, node_cmp, Place, IsBelow, append-nil}
use Rattle.uvm_tree.proofs.Paths as paths
use Rattle.uvm_tree.proofs.Paths.{Names, ends, name_cmp}

module _ (nodes : List Node) (tree : AreNodes nodes) where
  pub itself : (n : ℕ) → IsBelow nodes n n
  itself n = ([], sym (append-nil (path_at nodes n)))

  -- a child of a node stands below it
  pub child_below : (above c : ℕ) (name : List ℕ) → under_at nodes c ≡ Some (above, name) → IsBelow nodes above c
  child_below above c name e = (name ∷ [], tree.paths c (above, name) e)

  pub further : (a b c : ℕ) → IsBelow nodes a b → IsBelow nodes b c → IsBelow nodes a c
  further a b c first second = (first.0 ++ second.0, second.1 ∙ ap (λ (p : Names). p ++ second.0) first.1 ∙ append_assoc (path_at nodes a) first.0 second.0)

  -- what stands below a node is the node, or stands below one of its children
  pub record IsThrough (above n c : ℕ) (name : List ℕ) : Type 0 where
    pub under : under_at nodes c ≡ Some (above, name)
    pub below : IsBelow nodes c n

  abbrev pub Through : ℕ → ℕ → Type 0
  Through above n = (c : ℕ) × (name : List ℕ) × IsThrough above n c name

  step : (above n : ℕ) → above < length nodes → n < length nodes → (u : Place) → under_at nodes n ≡ Some u → (rest : Names) → path_at nodes n ≡ path_at nodes above ++ rest → (IsBelow nodes above u.0 → (u.0 ≡ above) ⊎ Through above u.0) → (n ≡ above) ⊎ Through above n
  step above n there here u e rest is up =
      elim (ends rest) [
        | inl none ↦ inl (tree.apart n above here there (is ∙ ap (λ (r : Names). path_at nodes above ++ r) none ∙ append-nil (path_at nodes above)))
        | inr some ↦
            let whole : path_at nodes u.0 ++ u.1 ∷ [] ≡ (path_at nodes above ++ some.0) ++ some.1 ∷ [] =
            sym (tree.paths n u e) ∙ is ∙ ap (λ (r : Names). path_at nodes above ++ r) some.2 ∙ sym (append_assoc (path_at nodes above) some.0 (some.1 ∷ [])) in
            let same = same_from_push _ _ _ _ whole in
            elim (up (some.0, same.0)) [
              | inl one ↦ inr (n, u.1, record { under = subst (λ (p : ℕ). under_at nodes n ≡ Some (p, u.1)) one e; below = itself n })
              | inr through ↦ inr (through.0, through.1, record { under = through.2.under; below = further through.0 u.0 n through.2.below (child_below u.0 n u.1 e) })
            ]
      ]

  pub some_place : (o : Option Place) → IsSome o → (place : Place) × (o ≡ Some place)
  some_place None h = cc
  some_place (Some place) h = (place, refl)

  pub top-path : path_at nodes 0 ≡ []
  top-path = ap (λ (o : Option Node). option_map_or (λ (node : Node). node.path) o []) tree.top_first

  empty-front : (p r : Names) → [] ≡ p ++ r → p ≡ []
  empty-front [] r e = refl
  empty-front (x ∷ p) r e = cc

  cases-upto : (k above n : ℕ) → n < k → above < length nodes → n < length nodes → IsBelow nodes above n → (n ≡ above) ⊎ Through above n
  cases-upto zero above n small there here below = absurd (omega arith)
  cases-upto (suc k) above zero small there here below =
      inl (sym (tree.apart above 0 there here (empty-front (path_at nodes above) below.0 (sym top-path ∙ below.1) ∙ sym top-path)))
  cases-upto (suc k) above (suc n) small there here below =
      let u = some_place (under_at nodes (suc n)) (tree.others (suc n) (omega arith) here) in
      let low = tree.parents (suc n) u.0 u.1 in
      step above (suc n) there here u.0 u.1 below.0 below.1 (cases-upto k above u.0.0 (omega arith) there (omega arith))

  pub cases : (above n : ℕ) → above < length nodes → n < length nodes → IsBelow nodes above n → (n ≡ above) ⊎ Through above n
  cases above n there here below = cases-upto (suc n) above n (omega arith) there here below

  -- below two children of one node all stand as the children
  pub parted : (direction : Direction) (above c d m n : ℕ) (a b : List ℕ) → under_at nodes c ≡ Some (above, a) → under_at nodes d ≡ Some (above, b) → name_cmp a b ≡ Less → IsBelow nodes c m → IsBelow nodes d n → node_cmp (order_of direction) nodes m n ≡ Less
  parted direction above c d m n a b e f less first second =
      let one : path_at nodes m ≡ path_at nodes above ++ a ∷ first.0 = first.1 ∙ ap (λ (p : Names). p ++ first.0) (tree.paths c (above, a) e) ∙ append_assoc (path_at nodes above) (a ∷ []) first.0 in
      let two : path_at nodes n ≡ path_at nodes above ++ b ∷ second.0 = second.1 ∙ ap (λ (p : Names). p ++ second.0) (tree.paths d (above, b) f) ∙ append_assoc (path_at nodes above) (b ∷ []) second.0 in
      (λ i. order_of direction (one i) (two i)) ∙ paths.parted direction (path_at nodes above) a b first.0 second.0 less

  -- what does not stand below a node stands to all below it as to the node
  pub apart : (direction : Direction) (above m n : ℕ) → IsBelow nodes above m → (IsBelow nodes above n → ⊥) → node_cmp (order_of direction) nodes m n ≡ node_cmp (order_of direction) nodes above n
  apart direction above m n below other =
      ap (λ (p : Names). order_of direction p (path_at nodes n)) below.1 ∙ paths.apart direction (path_at nodes above) below.0 (path_at nodes n) other
