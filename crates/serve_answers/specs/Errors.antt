-- The line numbers and the texts of errors.
use Rattle.std.specs.Prelude.{ℕ, List, codes}
use Rattle.serve_answers.specs.LinesErrors as lines
use Rattle.serve_answers.specs.declared.lines.errors.LineError.TheVariants.{Unreadable, Memory}
use Rattle.serve_answers.specs.declared.errors.AnswerError.{AnswerError}
use Rattle.serve_answers.specs.declared.errors.AnswerError.TheVariants.{NoAct, NeitherMadeNorDeclined, TooManyActs, Unread}

-- the number of the line of an error
abbrev pub line_in : AnswerError → ℕ
line_in (NoAct line) = line
line_in (NeitherMadeNorDeclined line) = line
line_in (TooManyActs line) = line
line_in (Unread line why) = line

-- the number of the wrong line; 0 if the reader failed or memory ran out
abbrev pub wrong_line : AnswerError → ℕ
wrong_line (Unread line Unreadable) = 0
wrong_line (Unread line Memory) = 0
wrong_line error = line_in error

-- the text of each error
abbrev pub error_text : AnswerError → List ℕ
error_text (NoAct line) = codes "no act"
error_text (NeitherMadeNorDeclined line) = codes "neither made nor declined"
error_text (TooManyActs line) = codes "too many acts"
error_text (Unread line why) = lines.error_text why
