-- The limits of the lengths of names, paths and globs.
use Rattle.std.specs.Prelude.{ℕ}

-- the maximum number of bytes of a name
abbrev pub most_name_bytes : ℕ
most_name_bytes = 64

-- the maximum number of bytes of a short name
abbrev pub most_short_bytes : ℕ
most_short_bytes = 13

-- the maximum number of names of a path
abbrev pub most_names : ℕ
most_names = 32

-- the maximum number of bytes of the text of a path, and of a glob
abbrev pub most_text_bytes : ℕ
most_text_bytes = 1024
