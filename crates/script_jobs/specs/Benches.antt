-- Benches that were read, and their runs.
use Rattle.std.specs.Prelude.{◌≡◌, ◌⊎◌, ℕ, Bool, List, Option, Result, Ok}
use Rattle.std.specs.Io.KnownBytes.{Keeps}
use Rattle.toml.specs.Data.{Members}
use Rattle.rand_core.specs.Stream.{Stream}
use Rattle.bench_script.specs.Documents.{tree_of_bytes}
use Rattle.bench_script.specs.Scripts.{ScriptValue}
use Rattle.bench_run.specs.declared.run_results.RunResult.{RunResult}
use Rattle.bench_run.specs.declared.faults.RunFault.{RunFault}
use Rattle.script_input.specs.declared.breakages.Breakage.TheVariants as broke
use Rattle.script_objects.specs.Answers.{TypeValue}
use Rattle.script_jobs.specs.Runs.{HasBench, IsBenchRun, IsScriptRun, IsTreeRun, IsVerdictOn}
use Rattle.script_jobs.specs.declared.verdicts.Verdict.{Verdict}
use Rattle.script_jobs.specs.declared.verdicts.Verdict.TheVariants.{Broken}

-- a bench: its script, and the rules of the types with answers
pub record BenchValue : Type 0 where
  pub script : ScriptValue
  pub types : List TypeValue

-- the bench is that of these bytes, with the requested test, if one is given
pub record HasRead (bytes : List ℕ) (test : Option (List ℕ)) (held : BenchValue) : Type 0 where
  pub root : Members
  pub read : tree_of_bytes bytes ≡ Ok root
  pub bench : HasBench root test held.script held.types

-- the verdict on a tree without a bench, whatever the random numbers; nothing is written
abbrev pub IsNoBench : Members → Option (List ℕ) → Verdict → Type 0
IsNoBench root test verdict = (words : Stream) (trace : Bool) (held : Option (List ℕ)) → IsTreeRun root test words trace held held verdict

-- the verdict on bytes without a bench, whatever the random numbers; nothing is written
abbrev pub IsUnreadBench : List ℕ → Option (List ℕ) → Verdict → Type 0
IsUnreadBench bytes test verdict = (words : Stream) (trace : Bool) (held : Option (List ℕ)) → IsBenchRun bytes test words trace held held verdict

-- the bench was run with these random numbers, with this verdict; or memory ran out before the run, and nothing was written
abbrev pub IsRunOf : BenchValue → Stream → Bool → Option (List ℕ) → Option (List ℕ) → Verdict → Type 0
IsRunOf bench words trace old new verdict =
    ((result : Result RunResult RunFault) × IsScriptRun bench.types words bench.script trace old new result × IsVerdictOn result verdict) ⊎ ((verdict ≡ Broken broke.Memory) × Keeps old new)
