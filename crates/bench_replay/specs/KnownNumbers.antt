-- Random numbers that are known.
use Rattle.std.specs.Prelude.{ℕ, List, [], ◌∷◌}
use Rattle.rand_core.specs.Steps.{stream_of, steps_u64_low}
use Rattle.rand_core.specs.Stream.{Stream}

-- the next of some numbers, and those that are left; 0 if none is left
abbrev pub next_known : List ℕ → ℕ × List ℕ
next_known [] = (0, [])
next_known (word ∷ left) = (word, left)

-- what a generator answers that has these numbers left
abbrev pub known_numbers : List ℕ → Stream
known_numbers = stream_of (steps_u64_low next_known)
