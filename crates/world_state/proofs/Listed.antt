-- The objections as they stand in their list.
use Rattle.world_state.proofs.Common.{◌≡◌, ◌<◌, ◌≤◌, ◌==◌, ◌+◌, ℕ, zero, suc, Bool, true, false, List, ◌++◌, ◌∷◌, [], refl, sym, ap, ◌∙◌, subst, arith, get_or, slice_get, slice_set, length, nat_lt, Option, Some, None, inl, inr, option_map_or, option_or, nat_tests, slice_get_past, Phase, ObjectionValue, HasOwnPlace, OthersStayAt, nodes_at, one_at, place_in, spare_at, Node}
use Rattle.world_state.proofs.Placed.{within}

-- where one stands, it is the one of that place
record IsThere (xs : List ObjectionValue) (n : ℕ) : Type 0 where
  one : ObjectionValue
  is : slice_get xs n ≡ Some one

there : (xs : List ObjectionValue) (n : ℕ) → n < length xs → IsThere xs n
there [] n low = absurd (omega (arith, low))
there (x ∷ xs) zero low = record { one = x; is = refl }
there (x ∷ xs) (suc n) low = let later = there xs n (omega (arith, low)) in record { one = later.one; is = later.is }

same-one : (one other : List ObjectionValue) (n : ℕ) → n < length other → slice_get one n ≡ slice_get other n → one_at one n ≡ one_at other n
same-one one other n low same = let found = there other n low in rw (same, found.is) refl

pub same-nodes : (one other : List ObjectionValue) (n : ℕ) → n < length other → slice_get one n ≡ slice_get other n → nodes_at one n ≡ nodes_at other n
same-nodes one other n low same = ap (λ (found : Option ObjectionValue). option_map_or (λ o. o.nodes) found []) (same-one one other n low same)

pub same-spare : (one other : List ObjectionValue) (n : ℕ) → n < length other → slice_get one n ≡ slice_get other n → spare_at one n ≡ spare_at other n
same-spare one other n low same = ap (λ (found : Option ObjectionValue). option_map_or (λ o. o.spare) found 0) (same-one one other n low same)

-- where none stands, it is the second
twice : (found : Option ObjectionValue) → option_or found found ≡ found
twice None = refl
twice (Some one) = refl

second : (xs : List ObjectionValue) (n : ℕ) → length xs ≤ n → one_at xs n ≡ one_at xs 1
second xs n far = rw (slice_get_past xs n far) (sym (twice (slice_get xs 1)))

-- so what holds where one stands holds at each place
pub everywhere :
    (R : Option ObjectionValue → Option ObjectionValue → Type 0) (old new : List ObjectionValue) → 2 ≤ length old → length new ≡ length old → ((n : ℕ) → n < length old → R (one_at old n) (one_at new n))
    → (n : ℕ) → R (one_at old n) (one_at new n)
everywhere R old new long count each n = tested (nat_lt n (length old)) refl
  where
    tested : (t : Bool) → nat_lt n (length old) ≡ t → R (one_at old n) (one_at new n)
    tested true is = each n (grind (arith, nat_tests, is))
    tested false is =
        let far : length old ≤ n = grind (arith, nat_tests, is) in
        let far' : length new ≤ n = omega (arith, far, count) in
        rw (second old n far, second new n far') (each 1 (omega (arith, long)))

-- each before a place has changed, and from there on each is as it was
pub record HaveChanged (change : List Node → List Node) (place : ℕ) (old new : List ObjectionValue) : Type 0 where
  pub count : length new ≡ length old
  pub done : (other : ℕ) → other < place → nodes_at new other ≡ change (nodes_at old other)
  pub rest : (other : ℕ) → place ≤ other → slice_get new other ≡ slice_get old other

-- each before a place has room, no room was given up, and nothing else has changed
pub record HaveRoom (place : ℕ) (old new : List ObjectionValue) : Type 0 where
  pub count : length new ≡ length old
  pub nodes : (other : ℕ) → nodes_at new other ≡ nodes_at old other
  pub spare : (other : ℕ) → other < place → 0 < spare_at new other
  pub kept : (other : ℕ) → spare_at old other ≤ spare_at new other

-- one more has changed
pub changed-more :
    (change : List Node → List Node) (place : ℕ) (old mid new : List ObjectionValue) → HaveChanged change place old mid → place < length mid → nodes_at new place ≡ change (nodes_at mid place) → OthersStayAt place mid new
    → length new ≡ length mid → HaveChanged change (place + 1) old new
changed-more change place old mid new was less here others count = record {
  count = count ∙ was.count;
  done = λ other low. before other (place == other) refl low;
  rest = λ other high. let apart : (place == other) ≡ false = grind (arith, nat_tests, high) in let least : place ≤ other = omega (arith, high) in others other apart ∙ was.rest other least;
}
  where
    before : (other : ℕ) (t : Bool) → (place == other) ≡ t → other < place + 1 → nodes_at new other ≡ change (nodes_at old other)
    before other true is low =
        let same : place ≡ other = grind (arith, nat_tests, is) in
        let least : place ≤ place = omega arith in
        let long = was.count in
        subst (λ (n : ℕ). nodes_at new n ≡ change (nodes_at old n)) same (here ∙ ap change (same-nodes mid old place (omega (arith, less, long)) (was.rest place least)))
    before other false is low =
        let under : other < place = grind (arith, nat_tests, is, low) in
        same-nodes new mid other (omega (arith, under, less)) (others other is) ∙ was.done other under

-- all have changed
pub changed-all : (change : List Node → List Node) (place : ℕ) (old new : List ObjectionValue) → 2 ≤ length old → HaveChanged change place old new → length old ≤ place → (n : ℕ) → nodes_at new n ≡ change (nodes_at old n)
changed-all change place old new long all far n =
    everywhere (λ before after. option_map_or (λ o. o.nodes) after [] ≡ change (option_map_or (λ o. o.nodes) before [])) old new long all.count (λ other low. all.done other (omega (arith, far, low))) n

-- where there is no memory for it, each is as it was, and none has less room
pub nodes-kept :
    (place : ℕ) (old mid new : List ObjectionValue) → 2 ≤ length old → HaveRoom place old mid → nodes_at new place ≡ nodes_at mid place → OthersStayAt place mid new → length new ≡ length mid
    → (n : ℕ) → nodes_at new n ≡ nodes_at old n
nodes-kept place old mid new long was same others count n =
    let all = was.count in
    everywhere (λ before after. option_map_or (λ o. o.nodes) after [] ≡ option_map_or (λ o. o.nodes) before []) mid new (omega (arith, long, all)) count (λ other low. tested other low (place == other) refl) n ∙ was.nodes n
  where
    tested : (other : ℕ) → other < length mid → (t : Bool) → (place == other) ≡ t → nodes_at new other ≡ nodes_at mid other
    tested other low true is =
        let one : place ≡ other = grind (arith, nat_tests, is) in
        subst (λ (m : ℕ). nodes_at new m ≡ nodes_at mid m) one same
    tested other low false is = same-nodes new mid other low (others other is)

pub spare-kept :
    (place : ℕ) (old mid new : List ObjectionValue) → 2 ≤ length old → HaveRoom place old mid → spare_at mid place ≤ spare_at new place → OthersStayAt place mid new → length new ≡ length mid
    → (n : ℕ) → spare_at old n ≤ spare_at new n
spare-kept place old mid new long was more others count n =
    let all = was.count in
    let before = was.kept n in
    let now = everywhere (λ before after. option_map_or (λ o. o.spare) before 0 ≤ option_map_or (λ o. o.spare) after 0) mid new (omega (arith, long, all)) count (λ other low. tested other low (place == other) refl) n in
    omega (arith, before, now)
  where
    tested : (other : ℕ) → other < length mid → (t : Bool) → (place == other) ≡ t → spare_at mid other ≤ spare_at new other
    tested other low true is =
        let one : place ≡ other = grind (arith, nat_tests, is) in
        subst (λ (m : ℕ). spare_at mid m ≤ spare_at new m) one more
    tested other low false is = let same = same-spare new mid other low (others other is) in omega (arith, same)

-- one more has room
pub room-more :
    (place : ℕ) (old mid new : List ObjectionValue) → 2 ≤ length old → HaveRoom place old mid → place < length mid → nodes_at new place ≡ nodes_at mid place → 0 < spare_at new place → spare_at mid place ≤ spare_at new place
    → OthersStayAt place mid new → length new ≡ length mid → HaveRoom (place + 1) old new
room-more place old mid new long was less same some more others count = record {
  count = count ∙ was.count;
  nodes = nodes-kept place old mid new long was same others count;
  spare = λ other low. spare other (place == other) refl low;
  kept = spare-kept place old mid new long was more others count;
}
  where
    spare : (other : ℕ) (t : Bool) → (place == other) ≡ t → other < place + 1 → 0 < spare_at new other
    spare other true is low =
        let one : place ≡ other = grind (arith, nat_tests, is) in
        subst (λ (n : ℕ). 0 < spare_at new n) one some
    spare other false is low =
        let under : other < place = grind (arith, nat_tests, is, low) in
        subst (λ (n : ℕ). 0 < n) (sym (same-spare new mid other (omega (arith, under, less)) (others other is))) (was.spare other under)

-- all have room
pub room-all : (place : ℕ) (old new : List ObjectionValue) → 2 ≤ length old → HaveRoom place old new → length old ≤ place → (n : ℕ) → 0 < spare_at new n
room-all place old new long all far n = everywhere (λ before after. 0 < option_map_or (λ o. o.spare) after 0) old new long all.count (λ other low. all.spare other (omega (arith, far, low))) n

-- two of the same nodes
pub two-alike : (nodes : List Node) (one other : ObjectionValue) → one.nodes ≡ nodes → other.nodes ≡ nodes → (n : ℕ) → nodes_at (one ∷ other ∷ []) n ≡ nodes
two-alike nodes one other is also zero = is
two-alike nodes one other is also (suc zero) = also
two-alike nodes one other is also (suc (suc n)) = also

-- a copy of the second behind the last changes the nodes of no place
behind : (second : Option ObjectionValue) (xs : List ObjectionValue) (copied : ObjectionValue) → copied.nodes ≡ option_map_or (λ o. o.nodes) second []
    → (n : ℕ) → option_map_or (λ o. o.nodes) (option_or (slice_get (xs ++ copied ∷ []) n) second) [] ≡ option_map_or (λ o. o.nodes) (option_or (slice_get xs n) second) []
behind second [] copied same zero = same
behind second [] copied same (suc n) = refl
behind second (x ∷ xs) copied same zero = refl
behind second (x ∷ xs) copied same (suc n) = behind second xs copied same n

pub second-copied : (xs : List ObjectionValue) (second copied : ObjectionValue) → 2 ≤ length xs → second ≡ get_or xs 1 second → copied.nodes ≡ second.nodes → (n : ℕ) → nodes_at (xs ++ copied ∷ []) n ≡ nodes_at xs n
second-copied [] second copied long found same n = absurd (omega (arith, long))
second-copied (x ∷ []) second copied long found same n = absurd (omega (arith, long))
second-copied (x ∷ y ∷ xs) second copied long found same n = behind (Some y) (x ∷ y ∷ xs) copied (same ∙ ap (λ (o : ObjectionValue). o.nodes) found) n

-- what is written at a place changes that place
written : (xs : List ObjectionValue) (place : ℕ) (one : ObjectionValue) → OthersStayAt place xs (slice_set xs place one)
written [] place one other apart = refl
written (x ∷ xs) zero one zero apart = cc
written (x ∷ xs) zero one (suc other) apart = refl
written (x ∷ xs) (suc place) one zero apart = refl
written (x ∷ xs) (suc place) one (suc other) apart = written xs place one other (grind (arith, nat_tests, apart))

-- where a phase has its own, the nodes of no other change with it
abbrev pub Others : Phase → List ObjectionValue → List ObjectionValue → Type 0
Others phase old new = (other : Phase) → (place_in phase == place_in other) ≡ false → nodes_at new (place_in other) ≡ nodes_at old (place_in other)

pub alone : (phase : Phase) (old new : List ObjectionValue) → HasOwnPlace (place_in phase) old → OthersStayAt (place_in phase) old new → Others phase old new
alone phase old new (inl first) stay = λ other apart.
    let second : (place_in phase == 1) ≡ false = grind (arith, nat_tests, first) in
    λ i. option_map_or (λ o. o.nodes) (option_or (stay (place_in other) apart i) (stay 1 second i)) []
alone phase old new (inr all) stay = λ other apart. let low = within other in same-nodes new old (place_in other) (omega (arith, low, all)) (stay (place_in other) apart)

pub others-stay :
    (phase : Phase) (place : ℕ) (old mid xs : List ObjectionValue) (one : ObjectionValue) → place ≡ place_in phase → xs ≡ mid → HasOwnPlace (place_in phase) mid → ((other : Phase) → nodes_at mid (place_in other) ≡ nodes_at old (place_in other))
    → Others phase old (slice_set xs place one)
others-stay phase place old mid xs one here same own kept = λ other apart.
    let stay = subst (λ (n : ℕ). OthersStayAt n xs (slice_set xs place one)) here (written xs place one) in
    let own' = subst (λ (o : List ObjectionValue). HasOwnPlace (place_in phase) o) (sym same) own in
    alone phase xs (slice_set xs place one) own' stay other apart ∙ ap (λ (o : List ObjectionValue). nodes_at o (place_in other)) same ∙ kept other
