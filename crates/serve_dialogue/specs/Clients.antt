-- The errors of reading the answer of a client.
use Rattle.std.specs.Prelude.{ℕ, List}
use Rattle.serve_answers.specs.Answers.{NeitherStands}
use Rattle.serve_answers.specs.declared.errors.AnswerError.{AnswerError}
use Rattle.serve_answers.specs.declared.errors.AnswerError.TheVariants.{Unread}
use Rattle.serve_answers.specs.declared.lines.errors.LineError.TheVariants.{Unreadable}

-- a request for an object has no answer: a text was read that is neither `made` nor `declined`, or no whole line was read
pub record IsUnmade (error : AnswerError) (IsGone : List ℕ → Type 0) (HasEnded : Type 0) : Type 0 where
  pub text : List ℕ
  pub why : NeitherStands error text IsGone HasEnded

-- the error is that the answers could not be read; the client did not cause it
abbrev pub IsUnreadable : AnswerError → Type 0
IsUnreadable (Unread line Unreadable) = Unit {0}
IsUnreadable other = ⊥
