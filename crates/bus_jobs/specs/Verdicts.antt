-- The verdicts on a job of the bus bench.
use Rattle.std.specs.Prelude.{ℕ, List, [], ◌∷◌, ◌++◌, codes}
use Rattle.script_values.specs.FaultTexts.{fault_text}
use Rattle.script_input.specs.Breakages.{message_of}
use Rattle.script_input.specs.declared.breakages.Breakage.TheVariants.{Output}
use Rattle.bus_jobs.specs.declared.verdicts.Verdict.{Verdict}
use Rattle.bus_jobs.specs.declared.verdicts.Verdict.TheVariants.{Clean, Faulty, Refused, Broken}

-- the exit status of the program
abbrev pub status_of : Verdict → ℕ
status_of Clean = 0
status_of Faulty = 1
status_of (Refused fault) = 2
status_of (Broken breakage) = 3

-- the verdict on a job whose output could not be flushed
abbrev pub unflushed : Verdict → Verdict
unflushed Clean = Broken Output
unflushed Faulty = Broken Output
unflushed (Refused fault) = Refused fault
unflushed (Broken breakage) = Broken breakage

-- a line on standard error, with its newline (10)
abbrev pub error_line : List ℕ → List ℕ
error_line message = codes "bus_bench: " ++ message ++ 10 ∷ []

-- the text on standard error: the line of the error, if there is one
abbrev pub fault_line : Verdict → List ℕ
fault_line Clean = []
fault_line Faulty = []
fault_line (Refused fault) = error_line (fault_text fault)
fault_line (Broken breakage) = error_line (message_of breakage)
