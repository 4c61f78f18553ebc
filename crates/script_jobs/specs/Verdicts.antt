-- The verdicts on a document, and the messages about it.
use Rattle.std.specs.Prelude.{ℕ, List, [], ◌∷◌, ◌++◌, codes, string_bytes}
use Rattle.script_values.specs.FaultTexts.{fault_text}
use Rattle.script_values.specs.declared.faults.ScriptFault.TheVariants.{UnknownType as unknown_type}
use Rattle.script_input.specs.Breakages.{message_of}
use Rattle.script_jobs.specs.declared.verdicts.Refusal.{Refusal}
use Rattle.script_jobs.specs.declared.verdicts.Refusal.TheVariants.{Script, UnknownTest, NoTable, UnknownType, NoObject, Answers}
use Rattle.script_jobs.specs.declared.verdicts.Verdict.{Verdict}
use Rattle.script_jobs.specs.declared.verdicts.Verdict.TheVariants.{Clean, Faulty, Refused, Broken}

-- the exit status of the program
abbrev pub status_of : Verdict → ℕ
status_of Clean = 0
status_of Faulty = 1
status_of (Refused refusal) = 2
status_of (Broken breakage) = 3

-- the message about a rejected document
abbrev pub refusal_text : Refusal → List ℕ
refusal_text (Script fault) = fault_text fault
refusal_text (UnknownTest name) = codes "test " ++ (name ++ (codes " is not declared in 'type' (" ++ (fault_text unknown_type ++ codes ")")))
refusal_text NoTable = codes "answers: not a table"
refusal_text (UnknownType type_name) = codes "answers." ++ (type_name ++ codes ": not declared in 'type'")
refusal_text (NoObject type_name) = codes "type " ++ (type_name ++ (codes " has no [answers." ++ (type_name ++ codes "] and is not built in")))
refusal_text (Answers text) = string_bytes text

-- a line on standard error about a file, with its newline (10)
abbrev pub error_line : List ℕ → List ℕ → List ℕ
error_line file message = codes "script_bench: " ++ file ++ codes ": " ++ message ++ 10 ∷ []

-- the text on standard error: the line of the error, if there is one
abbrev pub fault_line : List ℕ → Verdict → List ℕ
fault_line file Clean = []
fault_line file Faulty = []
fault_line file (Refused refusal) = error_line file (refusal_text refusal)
fault_line file (Broken breakage) = error_line file (message_of breakage)
