-- The sequencers at which a request can be granted, and how many requests are known to be blocked there.
use Rattle.std.specs.Prelude.{◌≡◌, ℕ, ◌==◌, nat_eq, List, false, Option, IfSome, IsSome, unwrap_or, if◌then◌else◌}
use Rattle.std.specs.Option.{option_map_or}
use Rattle.std.specs.HashMap.{get}
use Rattle.uvm_sequencer.specs.declared.modes.Mode.{Mode}
use Rattle.uvm_sequencer.specs.Passed.{IsPassed}
use Rattle.uvm_sequences.specs.Sequences.{Start}
use Rattle.world_sequencing.specs.declared.grant_indexes.GrantIndex.{GrantIndex}
use Rattle.world_sequencing.specs.Arbiters.{ArbiterValue, ArbiterMap}

-- how many requests at the front of the queue of a sequencer are known to be of blocked sequences
abbrev pub known_at : GrantIndex → ℕ → ℕ
known_at grant_index n = unwrap_or (get nat_eq grant_index.passed n) 0

-- the sequences of the first `known` requests of a sequencer are blocked, if there is a sequencer
abbrev pub IsKnown : List Start → ℕ → Option ArbiterValue → Type 0
IsKnown started known arbiter = IfSome arbiter (λ a. IsPassed started a.sequencer known)

-- `IsKnown` holds at each stored sequencer
abbrev pub AreKnown : List Start → ArbiterMap → GrantIndex → Type 0
AreKnown started arbiters grant_index = (n : ℕ) → IsKnown started (known_at grant_index n) (get nat_eq arbiters n)

-- the new number of requests known to be blocked at a sequencer, or 0 if no number is stored for it
abbrev pub learned_at : GrantIndex → ℕ → ℕ → ℕ
learned_at grant_index n known = option_map_or (λ before. known) (get nat_eq grant_index.passed n) 0

-- one sequencer has another number of requests known to be blocked; the numbers of the others stay
abbrev pub LearnsAt : ℕ → ℕ → GrantIndex → GrantIndex → Type 0
LearnsAt node known old new = (n : ℕ) → known_at new n ≡ (if node == n then learned_at old n known else known_at old n)

-- a node is added: if it is a sequencer, its number of requests known to be blocked is 0; the numbers of the others stay
pub record AddsGrantIndex (mode : Option Mode) (node : ℕ) (old new : GrantIndex) : Type 0 where
  pub others : (n : ℕ) → (node == n) ≡ false → known_at new n ≡ known_at old n
  pub fresh : IsSome mode → known_at new node ≡ 0

-- at no sequencer a request is known to be blocked
abbrev pub ForgetsAll : GrantIndex → Type 0
ForgetsAll grant_index = (n : ℕ) → known_at grant_index n ≡ 0
