-- The runs of a document for some seeds, and the lines about them.
use Rattle.std.specs.Prelude.{◌≡◌, ◌⊎◌, ◌||◌, ◌==◌, ◌+◌, ◌-◌, ℕ, Bool, false, List, [], ◌∷◌, ◌++◌, max, map, find, fold, count_by, nat_eq, Option, Some, None, All, codes, zero, suc}
use Rattle.std.specs.List.{flat_map, slice_split, starts_with}
use Rattle.std.specs.Fmt.{decimal}
use Rattle.std.specs.Io.KnownBytes.{Appends, Keeps}
use Rattle.script_input.specs.Breakages.{message_of}
use Rattle.script_input.specs.Scripts.{words_of_seed}
use Rattle.script_input.specs.declared.breakages.Breakage.{Breakage}
use Rattle.script_input.specs.declared.breakages.Breakage.TheVariants.{Memory, Output}
use Rattle.script_jobs.specs.Benches.{BenchValue, IsRunOf, IsUnreadBench}
use Rattle.script_jobs.specs.Runs.{IsBenchRun}
use Rattle.script_jobs.specs.Verdicts.{status_of}
use Rattle.script_jobs.specs.declared.verdicts.Verdict.{Verdict}
use Rattle.script_jobs.specs.declared.verdicts.Verdict.TheVariants.{Clean, Faulty, Refused, Broken}

-- so many seeds, from the first on
abbrev pub seeds_from : ℕ → ℕ → List ℕ
seeds_from first zero = []
seeds_from first (suc count) = seeds_from first count ++ (first + count) ∷ []

-- whether a line reports an ERROR or a FATAL
abbrev pub is_fault_line : List ℕ → Bool
is_fault_line line = starts_with nat_eq line (codes "UVM_ERROR @ ") || starts_with nat_eq line (codes "UVM_FATAL @ ")

-- the first line of a run's output that does, without its newline (10)
abbrev pub fault_of : List ℕ → Option (List ℕ)
fault_of output = find is_fault_line (slice_split (λ byte. byte == 10) output)

-- what follows the status of a run: its first ERROR or FATAL, if there is one
abbrev pub after_status : Option (List ℕ) → List ℕ
after_status None = []
after_status (Some fault) = codes ": " ++ fault

-- what stopped a run whose output is kept in memory
abbrev pub stop_of : Breakage → Breakage
stop_of Output = Memory
stop_of breakage = breakage

-- the words for a run, by its output and its verdict
abbrev pub verdict_text : List ℕ → Verdict → List ℕ
verdict_text output Clean = codes "clean"
verdict_text output Faulty = codes "status 1" ++ after_status (fault_of output)
verdict_text output (Refused refusal) = codes "status 2"
verdict_text output (Broken breakage) = codes "status 3: " ++ message_of (stop_of breakage)

-- the line of a run
abbrev pub seed_line : ℕ → List ℕ → Verdict → List ℕ
seed_line seed output verdict = codes "seed " ++ (decimal seed ++ (codes ": " ++ (verdict_text output verdict ++ (10 ∷ []))))

-- the last line: how many runs there were, how many of them were clean, and how many were not
abbrev pub count_line : ℕ → ℕ → List ℕ
count_line count clean = decimal count ++ (codes " seeds: " ++ (decimal clean ++ (codes " clean, " ++ (decimal (count - clean) ++ (codes " not" ++ (10 ∷ []))))))

-- a run: its seed, what it wrote without a trace, and the verdict
pub record SeedRun : Type 0 where
  pub seed : ℕ
  pub output : List ℕ
  pub verdict : Verdict

-- the line of a run
abbrev pub line_of : SeedRun → List ℕ
line_of run = seed_line run.seed run.output run.verdict

-- whether a run was clean
abbrev pub is_clean_run : SeedRun → Bool
is_clean_run run = status_of run.verdict == 0

-- the greatest exit status of some runs
abbrev pub greatest_status : List SeedRun → ℕ
greatest_status runs = fold (λ most run. max most (status_of run.verdict)) 0 runs

-- It is a run of the document for its seed, as `run_bench` makes it.
abbrev pub IsSeedRun : List ℕ → Option (List ℕ) → SeedRun → Type 0
IsSeedRun bytes test run = IsBenchRun bytes test (words_of_seed run.seed) false (Some []) (Some run.output) run.verdict

-- It is a run of a bench that was read, for its seed.
abbrev pub IsRunFor : BenchValue → SeedRun → Type 0
IsRunFor bench run = IsRunOf bench (words_of_seed run.seed) false (Some []) (Some run.output) run.verdict

-- There is a run for each seed, in order. The line of each run was written, and then the count.
pub record WroteRuns (IsRun : SeedRun → Type 0) (first count : ℕ) (old new : Option (List ℕ)) (greatest : ℕ) : Type 0 where
  pub runs : List SeedRun
  pub seeds : map (λ run. run.seed) runs ≡ seeds_from first count
  pub each : All IsRun runs
  pub wrote : Appends old new (flat_map line_of runs ++ count_line count (count_by is_clean_run runs))
  pub status : greatest ≡ greatest_status runs

-- the runs did not begin, with the verdict on the document and nothing written; or the output failed, or memory ran out
abbrev pub IsStopped : List ℕ → Option (List ℕ) → Option (List ℕ) → Option (List ℕ) → Verdict → Type 0
IsStopped bytes test old new verdict = (IsUnreadBench bytes test verdict × Keeps old new) ⊎ ((verdict ≡ Broken Output) ⊎ (verdict ≡ Broken Memory))
