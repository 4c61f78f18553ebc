-- The texts of line errors.
use Rattle.std.specs.Prelude.{ℕ, List, codes}
use Rattle.serve_answers.specs.declared.lines.errors.LineError.{LineError}
use Rattle.serve_answers.specs.declared.lines.errors.LineError.TheVariants.{TooLong, Ended, Unreadable, Memory}

-- the text of each error
abbrev pub error_text : LineError → List ℕ
error_text TooLong = codes "line too long"
error_text Ended = codes "answers end"
error_text Unreadable = codes "cannot read the answers"
error_text Memory = codes "memory"
