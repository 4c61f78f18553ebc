-- How a file is read.
use Rattle.std.specs.Prelude.{◌≡◌, ◌≢◌, ◌⊎◌, ℕ, List, [], Option}
use Rattle.std.specs.Io.KnownBytes.{Consumes}
use Rattle.script_input.specs.declared.breakages.Breakage.{Breakage}
use Rattle.script_input.specs.declared.breakages.Breakage.TheVariants.{Memory, LogFull, Output, Unread}

-- the greatest number of bytes that are read from a file: one more than a script may have
abbrev pub most_file_bytes : ℕ
most_file_bytes = 1048577

-- the verdict when a file is not read: out of memory, or `Unread`
abbrev pub IsUnread : Breakage → Type 0
IsUnread breakage = (breakage ≡ Memory) ⊎ (breakage ≡ Unread)

-- the reader gave at least one byte
abbrev pub GaveSome : Option (List ℕ) → Option (List ℕ) → Type 0
GaveSome old new = (more : List ℕ) × (more ≢ []) × Consumes old new more

-- why a file is not read: out of memory only after the reader gave a byte; `Unread` at any time
abbrev pub IsReadFault : Option (List ℕ) → Option (List ℕ) → Breakage → Type 0
IsReadFault old new Memory = GaveSome old new
IsReadFault old new LogFull = ⊥
IsReadFault old new Output = ⊥
IsReadFault old new Unread = Unit {0}
