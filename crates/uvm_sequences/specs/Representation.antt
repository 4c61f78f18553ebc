-- The stored list of sequences, in the order of their numbers.
use Rattle.std.specs.Prelude.{ℕ, zero, suc, ◌-◌, List, reverse, map, Option, Some, None, nat_le, if◌then◌else◌}
use Rattle.uvm_sequences.specs.declared.starts.SeqStep.{SeqStep}
use Rattle.uvm_sequences.specs.declared.starts.Sequence.{Sequence}
use Rattle.uvm_sequences.specs.Sequences.{Start}

-- how a stored sequence was started
abbrev pub start_of : Sequence → Start
start_of s = record { home = s.home; parent = s.parent; name = s.name; priority = s.priority }

-- how each stored sequence was started, newest first
abbrev pub starts_of : List Sequence → List Start
starts_of sequences = reverse (map start_of sequences)

-- the step of each stored sequence, newest first; none for one that has ended
abbrev pub steps_of : List Sequence → List (Option SeqStep)
steps_of sequences = reverse (map (λ s. s.step) sequences)

-- the place of the sequence of a number in the stored list, counted from 0; none for number 0
abbrev pub place_in : ℕ → Option ℕ
place_in zero = None
place_in (suc n) = Some n

-- the greatest number of sequences: a number has 32 bits
abbrev pub most_sequences : ℕ
most_sequences = 4294967295

-- how many more sequences fit, given the capacity of the list and the number of stored sequences
abbrev pub spare_in : ℕ → ℕ → ℕ
spare_in capacity count = (if nat_le capacity most_sequences then capacity else most_sequences) - count
