-- How many texts of a run a sink accepted.
use Rattle.std.specs.Prelude.{◌≡◌, ◌+◌, ℕ, Option, Some, None}

-- this many more texts were accepted, if the sink counts them
abbrev pub TookMore : ℕ → Option ℕ → Option ℕ → Type 0
TookMore count None after = Unit {0}
TookMore count (Some before) None = ⊥
TookMore count (Some before) (Some after) = after ≡ before + count
