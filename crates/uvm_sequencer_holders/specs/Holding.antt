-- The holders of a sequencer, in the order of granting. A sequence is in this list once for each lock that it holds.
use Rattle.std.specs.Prelude.{ℕ, Bool, ◌==◌, ◌&&◌, not, List, [], ◌∷◌, filter, Option, is_some, if◌then◌else◌}
use Rattle.std.specs.List.{list_any}
use Rattle.uvm_sequences.specs.declared.starts.SeqStep.{SeqStep}
use Rattle.uvm_sequences.specs.Sequences.{Start, is_under, step_at}

-- the holders, and for how many more locks there is reserved capacity
pub record HoldersValue : Type 0 where
  pub list : List ℕ
  pub spare : ℕ

-- whether a sequence is blocked: some holder is neither the sequence itself nor one of its ancestors
abbrev pub is_blocked : List Start → List ℕ → ℕ → Bool
is_blocked started holders seq = list_any (λ holder. not (is_under started seq holder)) holders

-- whether a sequence holds a lock
abbrev pub is_held : ℕ → List ℕ → Bool
is_held seq holders = list_any (λ holder. holder == seq) holders

-- the holders without the latest lock of a sequence
abbrev pub released : ℕ → List ℕ → List ℕ
released seq [] = []
released seq (holder ∷ later) = if (holder == seq) && not (is_held seq later) then later else holder ∷ released seq later

-- the holders without all locks of a sequence
abbrev pub all_released : ℕ → List ℕ → List ℕ
all_released seq holders = filter (λ holder. not (holder == seq)) holders

-- whether a sequence was started and has not ended
abbrev pub is_live_at : List (Option SeqStep) → ℕ → Bool
is_live_at steps id = is_some (step_at steps id)
