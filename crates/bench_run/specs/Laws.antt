-- Laws of all runs over objects that are functions of their calls.
use Rattle.std.specs.Prelude.{◌≡◌, ◌⊎◌, ◌≤◌, ℕ, Bool, true, List, length, Option, Some, Result, Ok, Err}
use Rattle.rand_core.specs.Stream.{Stream}
use Rattle.uvm_acts.specs.declared.acts.Act.{Act}
use Rattle.uvm_acts.specs.declared.acts.Call.{Call}
use Rattle.uvm_object.specs.declared.entries.Entry.{Entry}
use Rattle.uvm_object.specs.Objects.{Says, View}
use Rattle.bench_script.specs.Scripts.{ScriptValue}
use Rattle.bench_history.specs.History.{is_over}
use Rattle.bench_history.specs.Limits.{log_limit}
use Rattle.bench_history.specs.Next.{IsLegal}
use Rattle.bench_run.specs.Words.{HasWordsOf}
use Rattle.bench_run.specs.Lives.{HaveLived}
use Rattle.bench_run.specs.Running.{IsRun}
use Rattle.bench_run.specs.declared.run_results.RunResult.{RunResult}
use Rattle.bench_run.specs.declared.faults.RunFault.{RunFault}
use Rattle.bench_run.specs.declared.faults.RunFault.TheVariants.{Memory, LogFull, Output, NoTest}

-- at most one answer, with one next view, is allowed
abbrev pub AllowsOneAtMost : (List Act → View → Type 0) → Type 0
AllowsOneAtMost allowed = (acts others : List Act) (after next : View) → allowed acts after → allowed others next → (others ≡ acts) × (next ≡ after)

-- the run has ended, or the log is full
abbrev pub IsSpent : ScriptValue → List Entry → Type 0
IsSpent script history = (is_over history ≡ true) ⊎ (log_limit script ≤ length history)

-- the run ended, or stopped with a full log
abbrev pub IsDecided : Result RunResult RunFault → Type 0
IsDecided (Ok run_result) = Unit {0}
IsDecided (Err Memory) = ⊥
IsDecided (Err LogFull) = Unit {0}
IsDecided (Err Output) = ⊥
IsDecided (Err NoTest) = ⊥

module _ {O : Type 0} (view : O → View) (name : O → List ℕ) (says : O → Says) where
  -- a legal log of a run with these random numbers, over the objects that are given for the names of types
  pub record IsRunLog (given : List ℕ → Option O) (words : Stream) (script : ScriptValue) (history : List Entry) : Type 0 where
    pub legal : IsLegal script history
    pub drawn : HasWordsOf words history
    pub objects : HaveLived view name says (λ type_name object. object ≡ given type_name) script history

  -- law: if each object is a function of its calls, the log of a run that has ended or has a full log is determined: by the given objects, the
  -- random numbers and the script
  abbrev pub RunsAreFunctions : Type 0
  RunsAreFunctions =
      ((object : O) (before : View) (call : Call) → AllowsOneAtMost (says object before call))
      → (given : List ℕ → Option O) (words : Stream) (script : ScriptValue) (first second : List Entry) → IsRunLog given words script first → IsRunLog given words script second
      → IsSpent script first → IsSpent script second → second ≡ first

  -- law: if each object is a function of its calls, the result of a run and what it wrote are determined too. The run must have ended or
  -- stopped with a full log
  abbrev pub EndsAreDetermined : Type 0
  EndsAreDetermined =
      ((object : O) (before : View) (call : Call) → AllowsOneAtMost (says object before call))
      → (given : List ℕ → Option O) (words left remains : Stream) (script : ScriptValue) (trace : Bool) (held : List ℕ) (first second : Option (List ℕ)) (one other : Result RunResult RunFault)
      → IsRun view name says (λ type_name object. object ≡ given type_name) words left script trace (Some held) first one
      → IsRun view name says (λ type_name object. object ≡ given type_name) words remains script trace (Some held) second other
      → IsDecided one → IsDecided other → (other ≡ one) × (second ≡ first)
