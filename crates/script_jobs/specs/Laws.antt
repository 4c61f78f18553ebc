-- Laws of all runs of documents.
use Rattle.std.specs.Prelude.{◌≡◌, ℕ, Bool, List, Option, Some}
use Rattle.rand_core.specs.Stream.{Stream}
use Rattle.script_input.specs.declared.breakages.Breakage.TheVariants.{Memory, LogFull, Output, Unread}
use Rattle.script_jobs.specs.Benches.{BenchValue, HasRead, IsRunOf}
use Rattle.script_jobs.specs.Runs.{IsBenchRun}
use Rattle.script_jobs.specs.declared.verdicts.Refusal.TheVariants.{Script, UnknownTest, NoTable, UnknownType, NoObject, Answers}
use Rattle.script_jobs.specs.declared.verdicts.Verdict.{Verdict}
use Rattle.script_jobs.specs.declared.verdicts.Verdict.TheVariants.{Clean, Faulty, Refused, Broken}

-- the verdict is not out of memory, an error of the output, an error of reading, or a rejected entry of `answers`
abbrev pub IsDecided : Verdict → Type 0
IsDecided Clean = Unit {0}
IsDecided Faulty = Unit {0}
IsDecided (Refused (Script fault)) = Unit {0}
IsDecided (Refused (UnknownTest name)) = Unit {0}
IsDecided (Refused NoTable) = Unit {0}
IsDecided (Refused (UnknownType type_name)) = Unit {0}
IsDecided (Refused (NoObject type_name)) = Unit {0}
IsDecided (Refused (Answers text)) = ⊥
IsDecided (Broken Memory) = ⊥
IsDecided (Broken LogFull) = Unit {0}
IsDecided (Broken Output) = ⊥
IsDecided (Broken Unread) = ⊥

-- Two runs of one document have the same verdict and the same output if test, random numbers, trace option and earlier output are the same.
-- Both verdicts must be `IsDecided`.
abbrev pub RunsAreDetermined : Type 0
RunsAreDetermined =
    (bytes : List ℕ) (test : Option (List ℕ)) (words : Stream) (trace : Bool) (held : List ℕ) (first second : Option (List ℕ)) (one other : Verdict)
    → IsBenchRun bytes test words trace (Some held) first one → IsBenchRun bytes test words trace (Some held) second other → IsDecided one → IsDecided other
    → (other ≡ one) × (second ≡ first)

-- A run of a bench that was read from some bytes is a run of these bytes.
abbrev pub BenchRunsAreRuns : Type 0
BenchRunsAreRuns =
    (bytes : List ℕ) (test : Option (List ℕ)) (bench : BenchValue) (words : Stream) (trace : Bool) (old new : Option (List ℕ)) (verdict : Verdict)
    → HasRead bytes test bench → IsRunOf bench words trace old new verdict → IsBenchRun bytes test words trace old new verdict
