-- The limits that only scripts have; those of types and settings belong to the factory and the configuration.
use Rattle.std.specs.Prelude.{ℕ}

-- the maximum time limit, in ticks
abbrev pub most_time : ℕ
most_time = 1000000000000000000

-- the maximum quit limit, in counted reports
abbrev pub most_quit_limit : ℕ
most_quit_limit = 65535

-- the maximum number of bytes of a script
abbrev pub most_script_bytes : ℕ
most_script_bytes = 1048576
