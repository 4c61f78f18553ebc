-- The texts of errors, and the lines that they concern.
use Rattle.std.specs.Prelude.{ℕ, List, codes}
use Rattle.serve_answers.specs.Errors as answers
use Rattle.serve_dialogue.specs.declared.errors.ServeError.{ServeError}
use Rattle.serve_dialogue.specs.declared.errors.ServeError.TheVariants.{Memory, LogFull, Output, NoTest, NoAnswer}

-- the text of each error
abbrev pub error_text : ServeError → List ℕ
error_text Memory = codes "memory"
error_text LogFull = codes "log full"
error_text Output = codes "output fault"
error_text NoTest = codes "no test"
error_text (NoAnswer error) = answers.error_text error

-- the number of the client's line that is wrong; 0 if none is
abbrev pub wrong_line : ServeError → ℕ
wrong_line (NoAnswer error) = answers.wrong_line error
wrong_line other = 0
