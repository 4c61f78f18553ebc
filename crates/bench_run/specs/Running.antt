-- What a run of a script does.
use Rattle.std.specs.Prelude.{◌≡◌, ◌≢◌, ◌<◌, ◌≤◌, ℕ, Bool, false, List, [], ◌∷◌, ◌++◌, length, IfSome, IsSome, OnOk, Option, Some, None, Result, Ok, Err}
use Rattle.std.specs.Io.KnownBytes.{Appends, Keeps}
use Rattle.rand_core.specs.Stream.{Stream}
use Rattle.uvm_glob.specs.Lists.{newest}
use Rattle.uvm_report.specs.Counts.{Counts}
use Rattle.uvm_report.specs.Commands.{quit_limit, report_counts}
use Rattle.uvm_report.specs.Lines.{summary_text}
use Rattle.uvm_object.specs.Objects.{Says, View}
use Rattle.uvm_object.specs.declared.entries.Entry.{Entry}
use Rattle.uvm_object.specs.declared.entries.Entry.TheVariants.{Over}
use Rattle.bench_script.specs.Scripts.{ScriptValue}
use Rattle.bench_history.specs.Next.{IsLegal, declined_in, next_of}
use Rattle.bench_history.specs.Limits.{log_limit}
use Rattle.bench_history.specs.History.{is_over}
use Rattle.bench_history.specs.Reports.{report_commands}
use Rattle.bench_kernel.specs.Cores.{CoreValue, HasFewLines, core_after, last_text}
use Rattle.bench_kernel.specs.Health.TheVariants.{Good}
use Rattle.bench_kernel.specs.Kernels.{KernelValue}
use Rattle.bench_run.specs.Words.{HasGiven, HasWordsOf, may_lose}
use Rattle.bench_run.specs.Lives.{HaveLived}
use Rattle.bench_run.specs.declared.run_results.RunResult.{RunResult}
use Rattle.bench_run.specs.declared.faults.RunFault.{RunFault}
use Rattle.bench_run.specs.declared.faults.RunFault.TheVariants.{Memory, LogFull, Output, NoTest}

-- the texts of the entries of a log, in order: the line of each if tracing is on, and the line of its report if that is displayed
abbrev pub transcript : Bool → ScriptValue → List Entry → List ℕ
transcript trace script [] = []
transcript trace script (entry ∷ before) = transcript trace script before ++ last_text trace script (entry ∷ before)

-- the text of each entry of a log is at most two lines: the line of the entry, and that of its report
abbrev pub HaveFewLines : Bool → ScriptValue → List Entry → Type 0
HaveFewLines trace script [] = Unit {0}
HaveFewLines trace script (entry ∷ before) = HasFewLines trace script (entry ∷ before) × HaveFewLines trace script before

-- the counts of the reports of a log
abbrev pub log_counts : ScriptValue → List Entry → Counts
log_counts script history = report_counts (report_commands script history)

-- the summary of the reports of a log
abbrev pub summary_of : ScriptValue → List Entry → List ℕ
summary_of script history = summary_text (quit_limit (report_commands script history)) (log_counts script history)

-- the log is legal, and its text was written, followed by `more`; the text of an entry is a line, and one more if its report is displayed
pub record WroteLog (script : ScriptValue) (trace : Bool) (old new : Option (List ℕ)) (history : List Entry) (more : List ℕ) : Type 0 where
  pub legal : IsLegal script history
  pub lines : HaveFewLines trace script history
  pub wrote : Appends old new (transcript trace script history ++ more)

-- the result of a run: why it ended, and how many reports were issued as ERROR and as FATAL
pub record IsRunResult (run_result : RunResult) (script : ScriptValue) (history : List Entry) : Type 0 where
  pub reason : newest history ≡ Some (Over run_result.reason)
  pub errors : run_result.errors ≡ (log_counts script history).error
  pub fatals : run_result.fatals ≡ (log_counts script history).fatal

-- the run ended with this result and this log, and its summary was written after the text of the log
abbrev pub RanTo : RunResult → ScriptValue → Bool → List Entry → Option (List ℕ) → Option (List ℕ) → Type 0
RanTo run_result script trace history old new = IsRunResult run_result script history × WroteLog script trace old new history (summary_of script history)

-- what was written when memory ran out: the text of the log, or all but that of its newest entry, which then is not empty. The log whose
-- text was written is not full, unless the run has ended
pub record WroteSoFar (script : ScriptValue) (trace : Bool) (history : List Entry) (old new : Option (List ℕ)) : Type 0 where
  pub unwritten : List Entry
  pub written : List Entry
  pub log : history ≡ unwritten ++ written
  pub newest_alone : length unwritten ≤ 1
  pub lost : unwritten ≢ [] → last_text trace script history ≢ []
  pub room : is_over written ≡ false → length written < log_limit script
  pub wrote : WroteLog script trace old new written []

-- what an error leaves, by the log: `Memory`, `WroteSoFar`; `LogFull`, the text of a full log whose run has not ended; `Output`, nothing is
-- known; `NoTest`, an empty log and nothing written
abbrev pub BrokeOffRun : RunFault → ScriptValue → Bool → List Entry → Option (List ℕ) → Option (List ℕ) → Type 0
BrokeOffRun Memory script trace history old new = WroteSoFar script trace history old new
BrokeOffRun LogFull script trace history old new = (log_limit script ≤ length history) × (is_over history ≡ false) × WroteLog script trace old new history []
BrokeOffRun Output script trace history old new = Unit {0}
BrokeOffRun NoTest script trace history old new = (script.test ≡ None) × (history ≡ []) × Keeps old new

-- what a run writes, by its result and the log that it leaves
abbrev pub LeavesRun : ScriptValue → Bool → List Entry → Option (List ℕ) → Option (List ℕ) → Result RunResult RunFault → Type 0
LeavesRun script trace history old new (Ok run_result) = RanTo run_result script trace history old new
LeavesRun script trace history old new (Err fault) = BrokeOffRun fault script trace history old new

module _ {O : Type 0} (view : O → View) (name : O → List ℕ) (says : O → Says) (Makes : List ℕ → Option O → Type 0) where
  -- a run whose log is no longer available: there is a legal log that it left. The random numbers of the log are those of the generator,
  -- which consumed no others except one that may be lost. The objects are those that may be given for their types
  pub record IsRun (stream left : Stream) (script : ScriptValue) (trace : Bool) (old new : Option (List ℕ)) (result : Result RunResult RunFault) : Type 0 where
    pub history : List Entry
    pub legal : IsLegal script history
    pub leaves : LeavesRun script trace history old new result
    pub words : HasWordsOf stream history
    pub given : HasGiven (may_lose result) history stream left
    pub objects : HaveLived view name says Makes script history

-- a core has the log of a run of this script, whose text was written; if the run ended, the core answers all queries
pub record HasRun (core : CoreValue) (script : ScriptValue) (trace : Bool) (old new : Option (List ℕ)) (result : Result RunResult RunFault) : Type 0 where
  pub same : core.script ≡ script
  pub legal : IsLegal script core.history
  pub leaves : LeavesRun script trace core.history old new result
  pub sound : OnOk result (core.health ≡ Good)

-- a run that leaves no core: it has no test, or memory ran out
abbrev pub HasNoCore : Result RunResult RunFault → Type 0
HasNoCore (Ok run_result) = ⊥
HasNoCore (Err Memory) = Unit {0}
HasNoCore (Err LogFull) = ⊥
HasNoCore (Err Output) = ⊥
HasNoCore (Err NoTest) = Unit {0}

-- only ended sequences were reported and their objects returned; the log is unchanged, and the kernel has failed exactly if it had before
pub record HasTold {O : Type 0} (old new : KernelValue O) : Type 0 where
  pub core : new.core ≡ record old.core { leaving = new.core.leaving }
  pub failed : new.failed ≡ old.failed

-- the core has one more entry
pub record Grows (old new : CoreValue) : Type 0 where
  pub entry : Entry
  pub is : new ≡ core_after entry old

-- the error of a kernel that had not failed and added no entry: `Memory` if the log is not full; `LogFull` if it is full and the run has
-- not ended
abbrev pub IsHalted : RunFault → Bool → CoreValue → Type 0
IsHalted Memory failed core = failed ≡ false → length core.history < log_limit core.script
IsHalted LogFull failed core = (log_limit core.script ≤ length core.history) × (is_over core.history ≡ false)
IsHalted Output failed core = ⊥
IsHalted NoTest failed core = ⊥

-- the needed object was declined
pub record IsDeclined {O : Type 0} (old new : KernelValue O) : Type 0 where
  pub becomes : IfSome (declined_in (next_of old.core.script old.core.history)) (λ entry. new ≡ record old { core = core_after entry old.core })
  pub one : IsSome (declined_in (next_of old.core.script old.core.history))

-- the error of a write: `Memory`, with nothing written, or `Output`
abbrev pub IsUnwritten : RunFault → Option (List ℕ) → Option (List ℕ) → Type 0
IsUnwritten Memory old new = Keeps old new
IsUnwritten LogFull old new = ⊥
IsUnwritten Output old new = Unit {0}
IsUnwritten NoTest old new = ⊥
