-- The first and the last lines that a client receives.
use Rattle.std.specs.Prelude.{ℕ, List, [], ◌∷◌, ◌++◌, codes}
use Rattle.std.specs.Fmt.{decimal}
use Rattle.serve_dialogue.specs.Errors.{error_text, wrong_line}
use Rattle.serve_dialogue.specs.declared.errors.ServeError.{ServeError}
use Rattle.serve_jobs.specs.Verdicts.{words_of}
use Rattle.serve_jobs.specs.declared.verdicts.Verdict.{Verdict}
use Rattle.serve_jobs.specs.declared.verdicts.Verdict.TheVariants.{Broken}

-- the first lines: the version of the protocol, and the seed
abbrev pub head_lines : ℕ → List ℕ
head_lines seed = (codes "! serve 1" ++ 10 ∷ codes "! seed ") ++ decimal seed ++ 10 ∷ []

-- the line that states why a run stopped before its end, with the number of the client's line that is wrong; 0 if none is
abbrev pub fault_line : ServeError → List ℕ
fault_line error = codes "! fault " ++ decimal (wrong_line error) ++ 32 ∷ [] ++ error_text error ++ 10 ∷ []

-- the last line, which states how a run ended
abbrev pub end_line : List ℕ → List ℕ
end_line words = codes "! end " ++ words ++ 10 ∷ []

-- the last lines: why the run stopped before its end, if it did, and how it ended
abbrev pub last_lines : Verdict → List ℕ
last_lines (Broken error) = fault_line error ++ end_line (codes "broken 3")
last_lines verdict = end_line (words_of verdict)
