-- The text of a log that is whole, and the judgement on it whatever the objects answer.
use Rattle.std.specs.Prelude.{◌≡◌, ◌≤◌, ◌⊎◌, ℕ, true, List, [], ◌++◌, length, Option, Ok}
use Rattle.toml.specs.Data.{Members}
use Rattle.uvm_object.specs.declared.entries.Entry.{Entry}
use Rattle.bench_script.specs.Documents.{tree_of_bytes}
use Rattle.bench_script.specs.Scripts.{ScriptValue}
use Rattle.bench_history.specs.History.{is_over}
use Rattle.bench_history.specs.Limits.{log_limit}
use Rattle.bench_history.specs.Next.{IsLegal}
use Rattle.bench_core.specs.Cores.{CoreValue}
use Rattle.bench_core.specs.declared.cores.Health.TheVariants.{Good}
use Rattle.bench_run.specs.Running.{summary_of, transcript}
use Rattle.script_jobs.specs.Runs.{script_to_run}

-- The log is legal, and this is its text: of a run that has ended, the text of the entries and the summary; of a full log, the text of the entries.
pub record IsLogText (script : ScriptValue) (history : List Entry) (text : List ℕ) : Type 0 where
  pub legal : IsLegal script history
  pub whole : ((is_over history ≡ true) × (text ≡ transcript true script history ++ summary_of script history)) ⊎ ((log_limit script ≤ length history) × (text ≡ transcript true script history))

-- a core has a legal log of the script of a document, and this is its text
pub record HasLogText (bytes : List ℕ) (test : Option (List ℕ)) (text : List ℕ) (core : CoreValue) : Type 0 where
  pub root : Members
  pub read : tree_of_bytes bytes ≡ Ok root
  pub asked : script_to_run root test ≡ Ok core.script
  pub log : IsLogText core.script core.history text

-- a core of the script of a document, without an entry
pub record IsBegun (bytes : List ℕ) (test : Option (List ℕ)) (core : CoreValue) : Type 0 where
  pub root : Members
  pub read : tree_of_bytes bytes ≡ Ok root
  pub asked : script_to_run root test ≡ Ok core.script
  pub blank : core.history ≡ []
  pub good : core.health ≡ Good

-- the log of a core stays, whose run has ended
pub record IsOverLog (old new : CoreValue) : Type 0 where
  pub over : is_over old.history ≡ true
  pub same : new.history ≡ old.history
  pub health : new.health ≡ old.health

-- the log of a core stays, which is full
pub record IsFullLog (old new : CoreValue) : Type 0 where
  pub full : log_limit old.script ≤ length old.history
  pub same : new.history ≡ old.history
