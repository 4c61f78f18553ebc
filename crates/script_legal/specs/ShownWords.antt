-- The random numbers that a transcript shows.
use Rattle.std.specs.Prelude.{ℕ, ◌^◌, ◌==◌, nat_eq, nat_lt, ◌&&◌, List, length, Option, Some, None, unwrap_or, codes, if◌then◌else◌}
use Rattle.std.specs.Char.{is_ascii_digit}
use Rattle.std.specs.List.{filter_map, last_or, list_all, slice_split, starts_with}
use Rattle.std.specs.Str.Parse.{digits_value}

-- the part of a line behind its last blank (32), or the whole line
abbrev pub last_part : List ℕ → List ℕ
last_part line = unwrap_or (last_or None (slice_split (λ byte. byte == 32) line)) line

-- the number of at most 64 bits that has these decimal digits
abbrev pub number_in : List ℕ → Option ℕ
number_in text = if list_all is_ascii_digit text && (nat_lt 0 (length text) && nat_lt (digits_value 10 text) (2 ^ 64)) then Some (digits_value 10 text) else None

-- the random number in a line: the last part of the line of a grant, if that is a number
abbrev pub word_in : List ℕ → Option ℕ
word_in line = if starts_with nat_eq line (codes "granted ") then number_in (last_part line) else None

-- the random numbers in the lines of a text, in their order; a newline (10) ends a line
abbrev pub shown_words : List ℕ → List ℕ
shown_words text = filter_map word_in (slice_split (λ byte. byte == 10) text)
