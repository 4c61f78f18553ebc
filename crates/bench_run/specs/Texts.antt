-- How many texts a run passes to its sink.
use Rattle.std.specs.Prelude.{◌≡◌, ◌<◌, ◌≤◌, ◌+◌, ◌==◌, ℕ, Bool, true, false, List, [], length, Option, Some, None, Result, Ok, Err, IfOk, if◌then◌else◌}
use Rattle.std.proofs.Common.{add-zero, lit<, lit≤, sym}
use Rattle.uvm_object.specs.declared.entries.Entry.{Entry}
use Rattle.bench_script.specs.Scripts.{ScriptValue}
use Rattle.bench_history.specs.History.{is_over}
use Rattle.bench_history.specs.Limits.{log_limit}
use Rattle.bench_history.specs.Next.{IsLegal}
use Rattle.bench_run.specs.Sinks.{TookMore}
use Rattle.bench_run.specs.declared.run_results.RunResult.{RunResult}
use Rattle.bench_run.specs.declared.faults.RunFault.{RunFault}
use Rattle.bench_run.specs.declared.faults.RunFault.TheVariants.{Memory, LogFull, Output, NoTest}

-- one text for each entry of a legal log whose run has ended, and one for the summary
pub record TookAll (script : ScriptValue) (before after : Option ℕ) : Type 0 where
  pub history : List Entry
  pub legal : IsLegal script history
  pub over : is_over history ≡ true
  pub took : TookMore (length history + 1) before after

-- one text for each entry of a legal log that is not full, or whose run has ended
pub record TookSome (script : ScriptValue) (before after : Option ℕ) : Type 0 where
  pub history : List Entry
  pub legal : IsLegal script history
  pub room : is_over history ≡ false → length history < log_limit script
  pub took : TookMore (length history) before after

-- the texts by the result of the run: all if it ended; some if memory ran out; one for each entry of a full log; unknown if the output
-- failed; none without a test
abbrev pub TookTexts : ScriptValue → Option ℕ → Option ℕ → Result RunResult RunFault → Type 0
TookTexts script before after (Ok run_result) = TookAll script before after
TookTexts script before after (Err Memory) = TookSome script before after
TookTexts script before after (Err LogFull) = TookMore (log_limit script) before after
TookTexts script before after (Err Output) = Unit {0}
TookTexts script before after (Err NoTest) = after ≡ before

-- the limit of a log is greater than zero, in each version of scripts
pub some-room : (script : ScriptValue) → 0 < log_limit script
unfolding log_limit
some-room script = tested (script.version == 2)
  where
    tested : (later : Bool) → 0 < (if later then 8000000 else 1000000)
    tested true = lit< tt
    tested false = lit< tt

no-entry : (script : ScriptValue) → 0 ≤ log_limit script
unfolding log_limit
no-entry script = tested (script.version == 2)
  where
    tested : (later : Bool) → 0 ≤ (if later then 8000000 else 1000000)
    tested true = lit≤ tt
    tested false = lit≤ tt

-- before the first entry no text was accepted
took-none : (count : Option ℕ) → TookMore 0 count count
took-none None = tt
took-none (Some before) = sym (add-zero before)

-- a sink that accepted no texts accepted those of the empty log
pub took-nothing : (script : ScriptValue) (count : Option ℕ) → TookSome script count count
took-nothing script count = record { history = []; legal = record { each = tt; few = no-entry script }; room = λ going. some-room script; took = took-none count }

-- the same for any script that is requested
pub took-nothing-of : {Fault : Type 0} (asked : Result ScriptValue Fault) (count : Option ℕ) → IfOk asked (λ script. TookSome script count count)
took-nothing-of (Ok script) count = took-nothing script count
took-nothing-of (Err fault) count = tt
