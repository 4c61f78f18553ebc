-- The parts of a glob between its stars; `*` and `+` are the stars.
use Rattle.std.specs.Prelude.{ℕ, ◌-◌, Bool, true, false, ◌&&◌, ◌||◌, ◌==◌, nat_le, List, [], ◌∷◌, length, drop, Option, Some, None, if◌then◌else◌}

-- whether a character is a star, which can stand for more than one character: `*` (42) or `+` (43)
abbrev pub is_star : ℕ → Bool
is_star c = c == 42 || c == 43

-- whether the glob has no part before its first star
abbrev pub begins_with_star : List ℕ → Bool
begins_with_star [] = true
begins_with_star (c ∷ glob) = is_star c

-- whether the text begins with the part, in which `?` (63) stands for any character
abbrev pub fits : List ℕ → List ℕ → Bool
fits [] text = true
fits (c ∷ part) [] = false
fits (c ∷ part) (b ∷ text) = (c == 63 || c == b) && fits part text

-- whether the text ends with the part, in which `?` stands for any character
abbrev pub fits_at_end : List ℕ → List ℕ → Bool
fits_at_end part text = nat_le (length part) (length text) && fits part (drop (length text - length part) text)

-- the rest of the text after the first place where the part fits
abbrev pub after_first_fit : List ℕ → List ℕ → Option (List ℕ)
after_first_fit part [] = if fits part [] then Some [] else None
after_first_fit part (b ∷ text) = if fits part (b ∷ text) then Some (drop (length part) (b ∷ text)) else after_first_fit part text

-- the rest of the text after the fewest characters that the star takes: one for `+` (43), none for `*`
abbrev pub after_least : ℕ → List ℕ → Option (List ℕ)
after_least star [] = if star == 43 then None else Some []
after_least star (b ∷ text) = if star == 43 then Some text else Some (b ∷ text)
