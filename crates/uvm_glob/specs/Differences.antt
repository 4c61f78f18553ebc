-- Where two texts first differ.
use Rattle.std.specs.Prelude.{ℕ, ◌+◌, ◌==◌, List, [], ◌∷◌, Option, Some, None, if◌then◌else◌}

-- what each of two texts has at the first place where they differ: a byte, or `None` at its end
abbrev pub first_difference : List ℕ → List ℕ → Option ℕ × Option ℕ
first_difference [] [] = (None, None)
first_difference [] (y ∷ ys) = (None, Some y)
first_difference (x ∷ xs) [] = (Some x, None)
first_difference (x ∷ xs) (y ∷ ys) = if x == y then first_difference xs ys else (Some x, Some y)

-- the rank of what a text has at the first difference: the given ranks for the end and for a dot (46); every other byte ranks
-- after both
abbrev pub rank : ℕ → ℕ → Option ℕ → ℕ
rank end dot None = end
rank end dot (Some b) = if b == 46 then dot else b + 2
