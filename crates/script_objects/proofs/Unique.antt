-- Two lists in one order are equal where what ties stands alike in both.
use Rattle.script_objects.proofs.Common.{◌≡◌, ◌∙◌, suc, refl, ap, sym, subst, cond, true, false, Bool, not, List, [], ◌∷◌, All, add-one, arith, IsStrictWeakOrder, filter, IsSortedBy, ties, All-head, All-tail, sorted_far, ◌&&◌}

-- what holds of all elements holds of the first that passes a test
first-passes : {X : Type 0} (p : X → Bool) (P : X → Type 0) (xs : List X) (y : X) (rest : List X) → All P xs → filter p xs ≡ y ∷ rest → P y
first-passes p P [] y rest all is = cc
first-passes p P (x ∷ xs) y rest all is = by-test (p x) (first-passes p P xs y rest (All-tail P x xs all)) is where
  by-test : (passes : Bool) → (filter p xs ≡ y ∷ rest → P y) → cond passes (x ∷ filter p xs) (filter p xs) ≡ y ∷ rest → P y
  by-test true later same = let first : x ≡ y = cc in subst P first (All-head P x xs all)
  by-test false later same = later same

module _ {X : Type 0} (lt : X → X → Bool) (order : IsStrictWeakOrder lt) where
  -- an element ties with itself
  self-ties : (x : X) → ties lt x x ≡ true
  self-ties x = by-test (lt x x) refl where
    by-test : (less : Bool) → lt x x ≡ less → not less && not less ≡ true
    by-test true is = let none : lt x x ≡ false = order.one_way x x is in cc
    by-test false is = refl

  -- in a list that is in order nothing goes before the first
  all-after : (x : X) (xs : List X) → IsSortedBy lt (x ∷ xs) → All (λ y. lt y x ≡ false) xs
  all-after x xs sorted = λ k d below. sorted_far lt order (x ∷ xs) sorted 0 (suc k) d (omega arith) (omega (arith, below))

  later-sorted : (x : X) (xs : List X) → IsSortedBy lt (x ∷ xs) → IsSortedBy lt xs
  later-sorted x xs sorted = λ k d low below. rw add-one (rw add-one at (sorted (suc k) d (omega arith) (omega (arith, below))))

  abbrev AlikeBy : List X → List X → Type 0
  AlikeBy xs ys = (x : X) → filter (ties lt x) xs ≡ filter (ties lt x) ys

  -- the first of two lists that are alike: that of the other does not go before it
  not-before : (x y : X) (xs ys : List X) → IsSortedBy lt (x ∷ xs) → AlikeBy (x ∷ xs) (y ∷ ys) → lt y x ≡ false
  not-before x y xs ys sorted alike = by-test (lt y x) refl where
    found : cond (ties lt y x) (x ∷ filter (ties lt y) xs) (filter (ties lt y) xs) ≡ y ∷ filter (ties lt y) ys
    found = let self : ties lt y y ≡ true = self-ties y in rw self at (alike y)

    by-test : (less : Bool) → lt y x ≡ less → less ≡ false
    by-test true is =
        let apart : ties lt y x ≡ false = rw is refl in
        let later : filter (ties lt y) xs ≡ y ∷ filter (ties lt y) ys = rw apart at found in
        sym is ∙ first-passes (ties lt y) (λ z. lt z x ≡ false) xs y (filter (ties lt y) ys) (all-after x xs sorted) later
    by-test false is = refl

  -- the first of both tie
  firsts-tie : (x y : X) (xs ys : List X) → IsSortedBy lt (x ∷ xs) → IsSortedBy lt (y ∷ ys) → AlikeBy (x ∷ xs) (y ∷ ys) → ties lt x y ≡ true
  firsts-tie x y xs ys sorted others alike = rw (not-before y x ys xs others (λ z. sym (alike z)), not-before x y xs ys sorted alike) refl

  -- so they are equal, and what is left is alike
  firsts-same : (x y : X) (xs ys : List X) → ties lt x y ≡ true → AlikeBy (x ∷ xs) (y ∷ ys) → x ≡ y
  firsts-same x y xs ys tie alike =
      let same : x ∷ filter (ties lt x) xs ≡ y ∷ filter (ties lt x) ys = rw (self-ties x, tie) at (alike x) in cc

  rest-alike : (x : X) (xs ys : List X) → AlikeBy (x ∷ xs) (x ∷ ys) → AlikeBy xs ys
  rest-alike x xs ys alike z = by-test (ties lt z x) (alike z) where
    by-test : (tie : Bool) → cond tie (x ∷ filter (ties lt z) xs) (filter (ties lt z) xs) ≡ cond tie (x ∷ filter (ties lt z) ys) (filter (ties lt z) ys) → filter (ties lt z) xs ≡ filter (ties lt z) ys
    by-test true same = cc
    by-test false same = same

  none-alike : (x : X) (xs : List X) → filter (ties lt x) (x ∷ xs) ≡ [] → ⊥
  none-alike x xs same = let found : x ∷ filter (ties lt x) xs ≡ [] = rw (self-ties x) at same in cc

  pub same-in-order : (xs ys : List X) → IsSortedBy lt xs → IsSortedBy lt ys → AlikeBy xs ys → xs ≡ ys
  same-in-order [] [] sorted others alike = refl
  same-in-order [] (y ∷ ys) sorted others alike = absurd (none-alike y ys (sym (alike y)))
  same-in-order (x ∷ xs) [] sorted others alike = absurd (none-alike x xs (alike x))
  same-in-order (x ∷ xs) (y ∷ ys) sorted others alike =
      let first : x ≡ y = firsts-same x y xs ys (firsts-tie x y xs ys sorted others alike) alike in
      let later : AlikeBy xs ys = rest-alike x xs ys (subst (λ z. AlikeBy (x ∷ xs) (z ∷ ys)) (sym first) alike) in
      rw first (ap (λ (rest : List X). y ∷ rest) (same-in-order xs ys (later-sorted x xs sorted) (later-sorted y ys others) later))
