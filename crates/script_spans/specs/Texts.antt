-- Lines and columns of a text.
use Rattle.std.specs.Prelude.{ℕ, Bool, List, ◌==◌, ◌||◌, nat_le, nat_lt}
use Rattle.std.specs.List.{after_last, count_by}

-- the number of line feeds (10) in some bytes
abbrev pub newlines_in : List ℕ → ℕ
newlines_in bytes = count_by (λ byte. byte == 10) bytes

-- whether a byte of UTF-8 is the first of its character
abbrev pub is_first : ℕ → Bool
is_first byte = nat_lt byte 128 || nat_le 192 byte

-- what comes after the last line feed
abbrev pub last_line : List ℕ → List ℕ
last_line bytes = after_last (λ byte. byte == 10) bytes

-- the number of characters after the last line feed
abbrev pub characters_of_line : List ℕ → ℕ
characters_of_line bytes = count_by is_first (last_line bytes)
