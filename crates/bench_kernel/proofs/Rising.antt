-- The numbers of the sequences that sit rise, whoever is seated or leaves.
use Rattle.bench_kernel.proofs.Common.{◌≡◌, ◌∙◌, ◌<◌, ◌≤◌, ◌+◌, ℕ, List, [], ◌∷◌, ◌++◌, map, refl, sym, ap, subst, arith, map-append, All-cons, All-nil, All-weaker, All, keys_of, Who, Node, Sequence, AreRisingWithin, IsWithout}

-- a sequence with a number over the one and no greater than the other
pub record IsBetween (low high : ℕ) (who : Who) : Type 0 where
  pub id : ℕ
  pub home : ℕ
  pub is : who ≡ Sequence home id
  pub over : low < id
  pub within : id ≤ high

pub all-between : (low high : ℕ) (sitters : List Who) → AreRisingWithin low high sitters → All (IsBetween low high) sitters
all-between low high [] rising = All-nil (IsBetween low high)
all-between low high (Node node ∷ rest) rising = absurd rising
all-between low high (Sequence home id ∷ rest) rising =
    All-cons (IsBetween low high) (Sequence home id) rest (record { id = id; home = home; is = refl; over = rising.0; within = rising.1 })
    (All-weaker (IsBetween id high) (IsBetween low high) (λ who b. record { id = b.id; home = b.home; is = b.is; over = omega (arith, b.over, rising.0); within = b.within }) rest (all-between id high rest rising.2))

-- one more sits, of the next number
pub rising-push : (low high home : ℕ) (sitters : List Who) → low ≤ high → AreRisingWithin low high sitters → AreRisingWithin low (high + 1) (sitters ++ Sequence home (high + 1) ∷ [])
rising-push low high home [] within rising = (omega (arith, within), omega arith, tt)
rising-push low high home (Node node ∷ rest) within rising = absurd rising
rising-push low high home (Sequence there id ∷ rest) within rising =
    let low_enough = rising.1 in
    (rising.0, omega (arith, low_enough), rising-push id high home rest rising.1 rising.2)

-- they rise from less too
rising-lower : (less low high : ℕ) (sitters : List Who) → less ≤ low → AreRisingWithin low high sitters → AreRisingWithin less high sitters
rising-lower less low high [] below rising = tt
rising-lower less low high (Node node ∷ rest) below rising = absurd rising
rising-lower less low high (Sequence home id ∷ rest) below rising =
    let over = rising.0 in
    (omega (arith, below, over), rising.1, rising.2)

pub rising-rest : (low high : ℕ) (who : Who) (rest : List Who) → AreRisingWithin low high (who ∷ rest) → AreRisingWithin low high rest
rising-rest low high (Node node) rest rising = absurd rising
rising-rest low high (Sequence home id) rest rising = let over = rising.0 in rising-lower low id high rest (omega (arith, over)) rising.2

-- one has left
rising-left : (low high : ℕ) (who : Who) (front behind : List Who) → AreRisingWithin low high (front ++ who ∷ behind) → AreRisingWithin low high (front ++ behind)
rising-left low high who [] behind rising = rising-rest low high who behind rising
rising-left low high who (Node node ∷ front) behind rising = absurd rising
rising-left low high who (Sequence home id ∷ front) behind rising = (rising.0, rising.1, rising-left id high who front behind rising.2)

module _ {O : Type 0} where
  pub rising-without : (low high : ℕ) (back : Who × O) (old new : List (Who × O)) → IsWithout back old new → AreRisingWithin low high (keys_of old) → AreRisingWithin low high (keys_of new)
  rising-without low high back old new without rising =
      let by-key : Who × O → Who = λ held. held.0 in
      let were : keys_of old ≡ keys_of without.front ++ back.0 ∷ keys_of without.behind = ap (map by-key) without.was ∙ map-append by-key without.front (back ∷ without.behind) in
      let are : keys_of new ≡ keys_of without.front ++ keys_of without.behind = ap (map by-key) without.is ∙ map-append by-key without.front without.behind in
      subst (AreRisingWithin low high) (sym are) (rising-left low high back.0 (keys_of without.front) (keys_of without.behind) (subst (AreRisingWithin low high) were rising))
