-- The holders of a sequencer as they are stored: one entry for all locks that a sequence was granted in succession.
use Rattle.std.specs.Prelude.{ℕ, ◌-◌, ◌<◌, List, [], ◌∷◌, ◌++◌, replicate, Option, Some, None}
use Rattle.std.specs.List.{slice_set}
use Rattle.uvm_sequencer_holders.specs.declared.holders.Held.{Held}

-- the sequence of an entry, once for each of its locks
abbrev pub locks_of : Held → List ℕ
locks_of held = replicate held.times held.seq

-- the holders in stored entries, one for each lock
abbrev pub held_by : List Held → List ℕ
held_by [] = []
held_by (held ∷ later) = locks_of held ++ held_by later

-- an entry has at least one lock
abbrev pub Holds : Held → Type 0
Holds held = 0 < held.times

-- the holders with one lock less of a sequence, given the place of its last entry and the number of locks there; all holders if it has no entry
abbrev pub less_by : ℕ → List Held → Option (ℕ × ℕ) → List ℕ
less_by seq runs None = held_by runs
less_by seq runs (Some last) = held_by (slice_set runs last.0 (record { seq = seq; times = last.1 - 1 }))
