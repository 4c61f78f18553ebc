-- The verdicts on the run of a document over a client.
use Rattle.std.specs.Prelude.{ℕ, List, [], ◌∷◌, ◌++◌, Option, codes}
use Rattle.std.specs.Io.KnownBytes.{Appends, Keeps}
use Rattle.script_jobs.specs.Verdicts.{error_line, refusal_text}
use Rattle.serve_dialogue.specs.Errors.{error_text}
use Rattle.serve_dialogue.specs.Steps.{IsUnheard}
use Rattle.serve_dialogue.specs.declared.errors.ServeError.TheVariants.{Output, NoAnswer}
use Rattle.serve_jobs.specs.declared.verdicts.Verdict.{Verdict}
use Rattle.serve_jobs.specs.declared.verdicts.Verdict.TheVariants.{Clean, Faulty, Refused, Broken}

-- the exit status of the program
abbrev pub status_of : Verdict → ℕ
status_of Clean = 0
status_of Faulty = 1
status_of (Refused refusal) = 2
status_of (Broken error) = 3

-- the text of a verdict and its exit status, as in the last line
abbrev pub words_of : Verdict → List ℕ
words_of Clean = codes "clean 0"
words_of Faulty = codes "faulty 1"
words_of (Refused refusal) = codes "refused 2"
words_of (Broken error) = codes "broken 3"

-- The text on standard error: what is wrong with the file, if anything is. If the client does not answer, nothing is stated about the text,
-- which shows a part of a wrong line.
abbrev pub IsReported : List ℕ → Verdict → Option (List ℕ) → Option (List ℕ) → Type 0
IsReported file Clean old new = Keeps old new
IsReported file Faulty old new = Keeps old new
IsReported file (Refused refusal) old new = Appends old new (error_line file (refusal_text refusal))
IsReported file (Broken Output) old new = Appends old new (codes "script_bench: output fault" ++ 10 ∷ [])
IsReported file (Broken (NoAnswer error)) old new = Unit {0}
IsReported file (Broken error) old new = Appends old new (error_line file (error_text error))

-- the run stopped because the client could not be read
abbrev pub IsUnheardEnd : Verdict → Type 0
IsUnheardEnd (Broken error) = IsUnheard error
IsUnheardEnd other = ⊥
