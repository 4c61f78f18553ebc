-- The lines of a client, and the errors of reading them.
use Rattle.std.specs.Prelude.{◌≡◌, ◌≢◌, ◌≤◌, ℕ, Bool, true, false, List, [], ◌∷◌, ◌++◌, length, All, Option, OnSome}
use Rattle.std.specs.Io.KnownBytes.{Consumes, IsAtEnd}
use Rattle.serve_answers.specs.declared.lines.errors.LineError.{LineError}
use Rattle.serve_answers.specs.declared.lines.errors.LineError.TheVariants.{TooLong, Ended}

-- no byte of the text is a newline (10)
abbrev pub HasNoNewline : List ℕ → Type 0
HasNoNewline text = All (λ byte. byte ≢ 10) text

-- a line has at most 4,096 bytes, and none of them is a newline
abbrev pub IsLine : List ℕ → Type 0
IsLine text = (length text ≤ 4096) × HasNoNewline text

-- nothing is left of an input, if its contents are known
abbrev pub HasEnded : Option (List ℕ) → Option (List ℕ) → Type 0
HasEnded old new = OnSome old (IsAtEnd new)

-- The number of bytes where reading stops before a newline: 4,097 if the line is too long, and at most 4,096 otherwise. The error `Ended`
-- comes only if the input has ended.
abbrev pub IsCutAt : LineError → ℕ → Type 0 → Type 0
IsCutAt TooLong count ended = count ≡ 4097
IsCutAt Ended count ended = (count ≤ 4096) × ended
IsCutAt other count ended = count ≤ 4096

-- what was read stops before a newline, so it is not a line
abbrev pub IsCutShort : LineError → List ℕ → Type 0 → Type 0
IsCutShort error text ended = HasNoNewline text × IsCutAt error (length text) ended

-- a newline if the line has ended; no text otherwise
abbrev pub newline_if : Bool → List ℕ
newline_if true = 10 ∷ []
newline_if false = []

-- A line grows by the bytes that the input loses before `end`, which is a newline or empty. The added bytes have no newline.
pub record Grows (before after : List ℕ) (old new : Option (List ℕ)) (end : List ℕ) : Type 0 where
  pub more : List ℕ
  pub is : after ≡ before ++ more
  pub plain : HasNoNewline more
  pub gone : Consumes old new (more ++ end)
