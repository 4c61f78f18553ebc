-- What a function finds along a list, where it may find nothing.
use Rattle.bench_kernel.proofs.Common.{◌≡◌, ◌∙◌, ℕ, zero, suc, ◌<◌, ◌≤◌, List, [], ◌∷◌, length, map, Option, Some, None, unwrap_or, get_or, refl, sym, ap, arith, All-nil, All-cons, All-head, All-tail, All-permutation, IsPermutation-map, same_Some, All, Contains, AllByRecursion, filter_map, IsPermutation, IsSome}

pub All-from_recursion : {X : Type 0} (P : X → Type 0) (xs : List X) → AllByRecursion P xs → All P xs
All-from_recursion P [] all = All-nil P
All-from_recursion P (x ∷ xs) all = All-cons P x xs all.0 (All-from_recursion P xs all.1)

pub recursion-from_All : {X : Type 0} (P : X → Type 0) (xs : List X) → All P xs → AllByRecursion P xs
recursion-from_All P [] all = tt
recursion-from_All P (x ∷ xs) all = (All-head P x xs all, recursion-from_All P xs (All-tail P x xs all))

module _ {X Y : Type 0} where
  -- two functions that find the same find one list
  pub filter_map-same : (f g : X → Option Y) (xs : List X) → All (λ x. g x ≡ f x) xs → filter_map g xs ≡ filter_map f xs
  filter_map-same f g [] same = refl
  filter_map-same f g (x ∷ xs) same =
      rw (All-head (λ x. g x ≡ f x) x xs same, filter_map-same f g xs (All-tail (λ x. g x ≡ f x) x xs same)) refl

module _ {X Y : Type 0} (f : X → Option Y) where
  -- where something is found at each, it is a map
  filter_map-map : (d : Y) (xs : List X) → All (λ x. IsSome (f x)) xs → filter_map f xs ≡ map (λ x. unwrap_or (f x) d) xs
  filter_map-map d [] some = refl
  filter_map-map d (x ∷ xs) some = go (f x) refl (All-head (λ x. IsSome (f x)) x xs some) (filter_map-map d xs (All-tail (λ x. IsSome (f x)) x xs some))
    where
      go : (found : Option Y) → f x ≡ found → IsSome (f x) → filter_map f xs ≡ map (λ x. unwrap_or (f x) d) xs → filter_map f (x ∷ xs) ≡ map (λ x. unwrap_or (f x) d) (x ∷ xs)
      go None is some rest = let bad = rw is at some in cc
      go (Some y) is some rest = rw (is, rest) refl

  pub filter_map-IsPermutation : (d : Y) (xs ys : List X) → All (λ x. IsSome (f x)) xs → IsPermutation xs ys → IsPermutation (filter_map f xs) (filter_map f ys)
  filter_map-IsPermutation d xs ys some same =
      rw (filter_map-map d xs some, filter_map-map d ys (All-permutation (λ x. IsSome (f x)) xs ys same some))
      (IsPermutation-map (λ x. unwrap_or (f x) d) xs ys same)

  pub length-filter_map : (xs : List X) → All (λ x. IsSome (f x)) xs → length (filter_map f xs) ≡ length xs
  length-filter_map [] some = refl
  length-filter_map (x ∷ xs) some = go (f x) refl (All-head (λ x. IsSome (f x)) x xs some) (length-filter_map xs (All-tail (λ x. IsSome (f x)) x xs some))
    where
      go : (found : Option Y) → f x ≡ found → IsSome (f x) → length (filter_map f xs) ≡ length xs → length (filter_map f (x ∷ xs)) ≡ length (x ∷ xs)
      go None is some rest = let bad = rw is at some in cc
      go (Some y) is some rest = rw is (omega (arith, rest))

  -- no more is found than there are places
  pub filter_map-few : (xs : List X) → length (filter_map f xs) ≤ length xs
  filter_map-few [] = omega arith
  filter_map-few (x ∷ xs) = go (f x) refl (filter_map-few xs)
    where
      go : (found : Option Y) → f x ≡ found → length (filter_map f xs) ≤ length xs → length (filter_map f (x ∷ xs)) ≤ length (x ∷ xs)
      go None is few = rw is (omega (arith, few))
      go (Some y) is few = rw is (omega (arith, few))

  -- what holds of each place holds of what is found there
  pub All-filter_map : (P : X → Type 0) (Q : Y → Type 0) (xs : List X) → ((x : X) (y : Y) → f x ≡ Some y → P x → Q y) → All P xs → All Q (filter_map f xs)
  All-filter_map P Q [] gives all = All-nil Q
  All-filter_map P Q (x ∷ xs) gives all = go (f x) refl (All-filter_map P Q xs gives (All-tail P x xs all))
    where
      go : (found : Option Y) → f x ≡ found → All Q (filter_map f xs) → All Q (filter_map f (x ∷ xs))
      go None is rest = rw is rest
      go (Some y) is rest = rw is (All-cons Q y (filter_map f xs) (gives x y is (All-head P x xs all)) rest)

  -- and the other way round
  pub All-places : (Q : Y → Type 0) (xs : List X) → All Q (filter_map f xs) → All (λ x. (y : Y) → f x ≡ Some y → Q y) xs
  All-places Q [] all = All-nil (λ x. (y : Y) → f x ≡ Some y → Q y)
  All-places Q (x ∷ xs) all = go (f x) refl all (λ rest. All-places Q xs rest)
    where
      go : (found : Option Y) → f x ≡ found → All Q (filter_map f (x ∷ xs)) → (All Q (filter_map f xs) → All (λ x. (y : Y) → f x ≡ Some y → Q y) xs) → All (λ x. (y : Y) → f x ≡ Some y → Q y) (x ∷ xs)
      go None is all rest =
          All-cons (λ x. (y : Y) → f x ≡ Some y → Q y) x xs (λ y found. let bad = rw is at found in cc) (rest (rw is at all))
      go (Some z) is all rest =
          let all' : All Q (z ∷ filter_map f xs) = rw is at all in
          All-cons (λ x. (y : Y) → f x ≡ Some y → Q y) x xs
          (λ y found. let same : z ≡ y = same_Some z y (sym is ∙ found) in rw (← same) (All-head Q z (filter_map f xs) all'))
          (rest (All-tail Q z (filter_map f xs) all'))

  -- where something is found
  pub Contains-filter_map : (xs : List X) (y : Y) → Contains (filter_map f xs) y → (x : X) × Contains xs x × (f x ≡ Some y)
  Contains-filter_map [] y there = absurd (omega (arith, there.1))
  Contains-filter_map (x ∷ xs) y there = go (f x) refl there (λ rest. Contains-filter_map xs y rest)
    where
      later : ((z : X) × Contains xs z × (f z ≡ Some y)) → (z : X) × Contains (x ∷ xs) z × (f z ≡ Some y)
      later found = (found.0, (suc found.1.0, omega (arith, found.1.1), found.1.2), found.2)

      go : (found : Option Y) → f x ≡ found → Contains (filter_map f (x ∷ xs)) y → (Contains (filter_map f xs) y → (z : X) × Contains xs z × (f z ≡ Some y)) → (z : X) × Contains (x ∷ xs) z × (f z ≡ Some y)
      go None is there rest = later (rest (rw is at there))
      go (Some z) is there rest = at (rw is at there).0 (rw is at there).1 (rw is at there).2
        where
          at : (k : ℕ) → k < suc (length (filter_map f xs)) → get_or (z ∷ filter_map f xs) k y ≡ y → (w : X) × Contains (x ∷ xs) w × (f w ≡ Some y)
          at zero within e = (x, (0, omega arith, refl), is ∙ ap Some e)
          at (suc k) within e = later (rest (k, omega (arith, within), e))

-- what a map makes an element of
pub Contains-map : {X Y : Type 0} (f : X → Y) (xs : List X) (y : Y) → Contains (map f xs) y → (x : X) × Contains xs x × (f x ≡ y)
Contains-map f [] y there = absurd (omega (arith, there.1))
Contains-map {X} {Y} f (x ∷ xs) y there = at there.0 there.1 there.2 (λ rest. Contains-map f xs y rest)
  where
    at : (k : ℕ) → k < suc (length (map f xs)) → get_or (f x ∷ map f xs) k y ≡ y → (Contains (map f xs) y → (z : X) × Contains xs z × (f z ≡ y)) → (z : X) × Contains (x ∷ xs) z × (f z ≡ y)
    at zero within e rest = (x, (0, omega arith, refl), e)
    at (suc k) within e rest =
        let found = rest (k, omega (arith, within), e) in
        (found.0, (suc found.1.0, omega (arith, found.1.1), found.1.2), found.2)

-- what holds of each element that a map makes
pub All-unmap : {X Y : Type 0} (P : Y → Type 0) (f : X → Y) (xs : List X) → All P (map f xs) → All (λ x. P (f x)) xs
All-unmap P f [] all = All-nil (λ x. P (f x))
All-unmap P f (x ∷ xs) all = All-cons (λ x. P (f x)) x xs (All-head P (f x) (map f xs) all) (All-unmap P f xs (All-tail P (f x) (map f xs) all))
