-- Laws of all runs of the bus bench.
use Rattle.std.specs.Prelude.{◌≡◌, ℕ, Bool, List, Option, Some, Result}
use Rattle.rand_core.specs.Stream.{Stream}
use Rattle.script_values.specs.declared.faults.ScriptFault.{ScriptFault}
use Rattle.bench_script.specs.Scripts.{ScriptValue}
use Rattle.bus_jobs.specs.Runs.{IsBenchRun}
use Rattle.script_input.specs.declared.breakages.Breakage.TheVariants.{Memory, LogFull, Output, Unread}
use Rattle.bus_jobs.specs.declared.verdicts.Verdict.{Verdict}
use Rattle.bus_jobs.specs.declared.verdicts.Verdict.TheVariants.{Clean, Faulty, Refused, Broken}

-- the verdict is not out of memory, an error of the output, or an error of reading
abbrev pub IsDecided : Verdict → Type 0
IsDecided Clean = Unit {0}
IsDecided Faulty = Unit {0}
IsDecided (Refused fault) = Unit {0}
IsDecided (Broken Memory) = ⊥
IsDecided (Broken LogFull) = Unit {0}
IsDecided (Broken Output) = ⊥
IsDecided (Broken Unread) = ⊥

-- Two runs of one script have the same verdict and the same output if random numbers, trace option and earlier output are the same. Both
-- verdicts must be `IsDecided`.
abbrev pub RunsAreDetermined : Type 0
RunsAreDetermined =
    (asked : Result ScriptValue ScriptFault) (words : Stream) (trace : Bool) (held : List ℕ) (first second : Option (List ℕ)) (one other : Verdict)
    → IsBenchRun asked words trace (Some held) first one → IsBenchRun asked words trace (Some held) second other → IsDecided one → IsDecided other
    → (other ≡ one) × (second ≡ first)
