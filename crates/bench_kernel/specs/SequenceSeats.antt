-- The value of the slots of sequences in contracts.
use Rattle.std.specs.Prelude.{◌≡◌, ◌<◌, ◌≤◌, ℕ, List, [], ◌∷◌, ◌++◌}
use Rattle.uvm_acts.specs.declared.acts.Who.{Who}
use Rattle.uvm_acts.specs.declared.acts.Who.TheVariants.{Node, Sequence}

-- the sequences with slots and their objects, in ascending order of number; how many were ever stored, and the reserved capacity in slots
pub record SequenceSeatsValue (O : Type 0) : Type 0 where
  pub held : List (Who × O)
  pub count : ℕ
  pub spare : ℕ

-- all are sequences; their numbers ascend, are greater than `low`, and are at most `high`
abbrev pub AreRisingWithin : ℕ → ℕ → List Who → Type 0
AreRisingWithin low high [] = Unit {0}
AreRisingWithin low high (Node node ∷ rest) = ⊥
AreRisingWithin low high (Sequence home id ∷ rest) = (low < id) × (id ≤ high) × AreRisingWithin id high rest

-- one element was removed, and the others keep their order
pub record IsWithout {X : Type 0} (back : X) (old new : List X) : Type 0 where
  pub front : List X
  pub behind : List X
  pub was : old ≡ front ++ back ∷ behind
  pub is : new ≡ front ++ behind
