-- The view of a reader of answers in contracts.
use Rattle.std.specs.Prelude.{ℕ, List}

-- A reader of answers: the reader of its bytes, what was read of the current line, and the number of that line. The number is 0 before the
-- first line.
pub record ReaderValue (R : Type 0) : Type 0 where
  pub reader : R
  pub line : List ℕ
  pub count : ℕ
