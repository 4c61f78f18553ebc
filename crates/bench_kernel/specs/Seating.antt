-- The held objects and their slots: of a component by its node and its path, of a sequence by its number.
use Rattle.std.specs.Prelude.{◌≡◌, ◌≢◌, ◌+◌, ℕ, List, [], ◌∷◌, ◌++◌, All}
use Rattle.std.specs.List.Sorted.{IsPermutation}
use Rattle.std.specs.Map.{keys_of}
use Rattle.uvm_acts.specs.declared.acts.Who.{Who}
use Rattle.uvm_acts.specs.declared.acts.Who.TheVariants.{Node, Sequence}
use Rattle.bench_kernel.specs.Seats.{Taken, held_in}
use Rattle.bench_kernel.specs.SequenceSeats.{SequenceSeatsValue}

module _ {O : Type 0} where
  -- all held objects, each with its component or sequence: the components in no order, then the sequences in ascending order of number
  abbrev pub all_held : List (Taken O) → List (Who × O) → List (Who × O)
  all_held taken sequences = held_in taken ++ sequences

  -- a slot is free: for a component that has none, or for the sequence with the next number
  abbrev pub IsFree : Who → List (Taken O) → SequenceSeatsValue O → Type 0
  IsFree (Node node) taken sequences = All (λ other. other ≢ Node node) (keys_of (held_in taken))
  IsFree (Sequence home id) taken sequences = id ≡ sequences.count + 1

  -- the slots of sequences are unchanged
  pub record SitAsBefore (old new : SequenceSeatsValue O) : Type 0 where
    pub held : new.held ≡ old.held
    pub count : new.count ≡ old.count

  -- one more sequence has a slot
  pub record SitWithOneMore (who : Who) (object : O) (old new : SequenceSeatsValue O) : Type 0 where
    pub held : new.held ≡ old.held ++ (who, object) ∷ []
    pub count : new.count ≡ old.count + 1

  -- an object was stored, of a component at its path or of a sequence, and the other slots are unchanged
  abbrev pub IsSeated : Who → List (List ℕ) → O → List (Taken O) → List (Taken O) → SequenceSeatsValue O → SequenceSeatsValue O → Type 0
  IsSeated (Node node) path object old new were are = IsPermutation (record { path = path; node = node; object = object } ∷ old) new × SitAsBefore were are
  IsSeated (Sequence home id) path object old new were are = (new ≡ old) × SitWithOneMore (Sequence home id) object were are
