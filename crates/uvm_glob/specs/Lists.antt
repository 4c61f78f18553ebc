-- Functions on lists that several crates use.
use Rattle.std.specs.Prelude.{List, [], ◌∷◌, Option, Some, None}

-- the newest element of a list that begins with its newest element
abbrev pub newest : {A : Type 0} → List A → Option A
newest [] = None
newest (x ∷ xs) = Some x

-- the first value in a list of optional values that is not `None`
abbrev pub first_given : {A : Type 0} → List (Option A) → Option A
first_given [] = None
first_given (Some x ∷ others) = Some x
first_given (None ∷ others) = first_given others
