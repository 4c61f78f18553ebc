-- The state of a report server after a command, given its state before.
use Rattle.std.specs.Prelude.{◌≡◌, ℕ, List, Option, None}
use Rattle.uvm_glob.specs.Paths.{path_text}
use Rattle.uvm_report.specs.declared.severities.Severity.{Severity}
use Rattle.uvm_report.specs.declared.severities.Actions.{Actions}
use Rattle.uvm_report.specs.declared.messages.Report.{Report}
use Rattle.uvm_report.specs.declared.messages.Fate.{Fate}
use Rattle.uvm_report.specs.ChosenValue.{ChosenValue, after_setting}
use Rattle.uvm_report.specs.Counts.{Counts, no_counts}
use Rattle.uvm_report.specs.Fates.{Ruling, ruling_by, counts_with, is_reached, fate_of}
use Rattle.uvm_report.specs.Commands.{Command, SetVerbosity, SetAction, SetSeverity, SetQuitLimit, Issue, which_from, level_in, actions_in, severity_in, chosen, quit_limit, report_counts}
use Rattle.uvm_report.specs.Observed.{Representation, severity_at, level_at, actions_at, limit_of, counts_of}

-- the ruling for a report at a path: the severity, level and actions that the settings determine
abbrev pub ruling_at : Representation → List (List ℕ) → Report → Ruling
ruling_at kept path report = ruling_by (severity_at kept path) (level_at kept path) (actions_at kept path) report

-- how a report at a path is handled
abbrev pub fate_at : Representation → List (List ℕ) → Report → Fate
fate_at kept path report =
    fate_of report (ruling_at kept path report) (is_reached (limit_of kept) (counts_with report (ruling_at kept path report) (counts_of kept)).quit)

-- the severity chosen at a path's text for reports of a severity and an id, after one more command
abbrev pub severity_after : Command → List ℕ → Severity → List ℕ → Option (ChosenValue Severity) → Option (ChosenValue Severity)
severity_after (SetSeverity scope from id to) text severity asked before = after_setting scope (which_from from id) to text severity asked before
severity_after command text severity asked before = before

-- the verbosity level chosen at a path's text for reports of a severity and an id, after one more command
abbrev pub level_after : Command → List ℕ → Severity → List ℕ → Option (ChosenValue ℕ) → Option (ChosenValue ℕ)
level_after (SetVerbosity scope which level) text severity id before = after_setting scope which level text severity id before
level_after command text severity id before = before

-- the actions chosen at a path's text for reports of a severity and an id, after one more command
abbrev pub actions_after : Command → List ℕ → Severity → List ℕ → Option (ChosenValue Actions) → Option (ChosenValue Actions)
actions_after (SetAction scope which actions) text severity id before = after_setting scope which actions text severity id before
actions_after command text severity id before = before

-- the quit limit after one more command
abbrev pub limit_after : Command → ℕ → ℕ
limit_after (SetQuitLimit limit) before = limit
limit_after command before = before

-- the counts of issued reports after one more command
abbrev pub counts_after : Command → Representation → Counts
counts_after (Issue path report) kept = counts_with report (ruling_at kept path report) (counts_of kept)
counts_after command kept = counts_of kept

-- the choices, the quit limit and the counts after a command are those that the command determines
pub record IsAfter (command : Command) (old new : Representation) : Type 0 where
  pub severities : (path : List (List ℕ)) (severity : Severity) (id : List ℕ) → severity_at new path severity id ≡ severity_after command (path_text path) severity id (severity_at old path severity id)
  pub levels : (path : List (List ℕ)) (severity : Severity) (id : List ℕ) → level_at new path severity id ≡ level_after command (path_text path) severity id (level_at old path severity id)
  pub actions : (path : List (List ℕ)) (severity : Severity) (id : List ℕ) → actions_at new path severity id ≡ actions_after command (path_text path) severity id (actions_at old path severity id)
  pub limit : limit_of new ≡ limit_after command (limit_of old)
  pub counts : counts_of new ≡ counts_after command old

-- a new server: nothing is chosen, there is no quit limit, and no report is issued
pub record IsNew (kept : Representation) : Type 0 where
  pub severities : (path : List (List ℕ)) (severity : Severity) (id : List ℕ) → severity_at kept path severity id ≡ None
  pub levels : (path : List (List ℕ)) (severity : Severity) (id : List ℕ) → level_at kept path severity id ≡ None
  pub actions : (path : List (List ℕ)) (severity : Severity) (id : List ℕ) → actions_at kept path severity id ≡ None
  pub limit : limit_of kept ≡ 0
  pub counts : counts_of kept ≡ no_counts

-- the choices, the quit limit and the counts do not change
pub record IsSame (old new : Representation) : Type 0 where
  pub severities : (path : List (List ℕ)) (severity : Severity) (id : List ℕ) → severity_at new path severity id ≡ severity_at old path severity id
  pub levels : (path : List (List ℕ)) (severity : Severity) (id : List ℕ) → level_at new path severity id ≡ level_at old path severity id
  pub actions : (path : List (List ℕ)) (severity : Severity) (id : List ℕ) → actions_at new path severity id ≡ actions_at old path severity id
  pub limit : limit_of new ≡ limit_of old
  pub counts : counts_of new ≡ counts_of old

-- the choices, the quit limit and the counts of the server are those that some commands determine
pub record ReportsAgree (kept : Representation) (commands : List Command) : Type 0 where
  pub severities : (path : List (List ℕ)) (severity : Severity) (id : List ℕ) → severity_at kept path severity id ≡ chosen severity_in commands (path_text path) severity id
  pub levels : (path : List (List ℕ)) (severity : Severity) (id : List ℕ) → level_at kept path severity id ≡ chosen level_in commands (path_text path) severity id
  pub actions : (path : List (List ℕ)) (severity : Severity) (id : List ℕ) → actions_at kept path severity id ≡ chosen actions_in commands (path_text path) severity id
  pub limit : limit_of kept ≡ quit_limit commands
  pub counts : counts_of kept ≡ report_counts commands
