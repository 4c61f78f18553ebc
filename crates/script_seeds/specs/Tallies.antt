-- The counts of runs, and the next run.
use Rattle.std.specs.Prelude.{◌≡◌, ◌+◌, ℕ, List, Option, max, if◌then◌else◌}
use Rattle.std.specs.Io.KnownBytes.{Appends}
use Rattle.script_input.specs.declared.breakages.Breakage.{Breakage}
use Rattle.script_input.specs.declared.breakages.Breakage.TheVariants.{Memory, LogFull, Output, Unread}
use Rattle.script_jobs.specs.Benches.{BenchValue}
use Rattle.script_jobs.specs.Verdicts.{status_of}
use Rattle.script_seeds.specs.SeedRuns.{IsRunFor, SeedRun, is_clean_run, line_of}
use Rattle.script_seeds.specs.declared.runs.Tally.{Tally}

-- the counts have one more run
pub record HasAdded (run : SeedRun) (before after : Tally) : Type 0 where
  pub clean : after.clean ≡ before.clean + (if is_clean_run run then 1 else 0)
  pub status : after.status ≡ max before.status (status_of run.verdict)

-- the bench was run for a seed, the counts have the run, and the line is its line
pub record RanFor (bench : BenchValue) (seed : ℕ) (before after : Tally) (line : List ℕ) : Type 0 where
  pub run : SeedRun
  pub seed_is : run.seed ≡ seed
  pub made : IsRunFor bench run
  pub added : HasAdded run before after
  pub line_is : line ≡ line_of run

-- the bench was run for a seed, the counts have the run, and its line was written
pub record IsNext (bench : BenchValue) (seed : ℕ) (before after : Tally) (old new : Option (List ℕ)) : Type 0 where
  pub run : SeedRun
  pub seed_is : run.seed ≡ seed
  pub made : IsRunFor bench run
  pub added : HasAdded run before after
  pub wrote : Appends old new (line_of run)

-- the output failed, or memory ran out
abbrev pub IsWriteFault : Breakage → Type 0
IsWriteFault Memory = Unit {0}
IsWriteFault LogFull = ⊥
IsWriteFault Output = Unit {0}
IsWriteFault Unread = ⊥
