-- The results of some commands to a report server, newest command first.
use Rattle.std.specs.Prelude.{ℕ, Bool, true, false, List, [], ◌∷◌, ◌++◌, length, Option, Some, None, nat_eq, filter, map, unwrap_or, if◌then◌else◌}
use Rattle.std.specs.List.{filter_map, cons_option, list_any}
use Rattle.std.specs.Cmp.Lexicographic.{pointwise}
use Rattle.uvm_glob.specs.Paths.{path_text}
use Rattle.uvm_glob.specs.Lists.{newest}
use Rattle.uvm_report.specs.declared.severities.Severity.{Severity}
use Rattle.uvm_report.specs.declared.severities.Severity.TheVariants.{Info, Warning, Error, Fatal}
use Rattle.uvm_report.specs.declared.severities.Actions.{Actions}
use Rattle.uvm_report.specs.declared.settings.Which.{Which}
use Rattle.uvm_report.specs.declared.settings.Which.TheVariants as which
use Rattle.uvm_report.specs.declared.messages.Report.{Report}
use Rattle.uvm_report.specs.declared.messages.Fate.{Fate}
use Rattle.uvm_report.specs.Severities.{same_severity}
use Rattle.uvm_report.specs.ChosenValue.{Lookup}
use Rattle.uvm_report.specs.Settings.{Setting, choice_among}
use Rattle.uvm_report.specs.Counts.{Counts}
use Rattle.uvm_report.specs.Fates.{Ruling, ruling_by, is_issued, is_reached, fate_of, asks_exit}

-- a command to a report server; scopes match whole paths
pub data Command : Type 0 where
  SetVerbosity : (scope : List ℕ) (which : Which) (level : ℕ) → Command
  SetAction : (scope : List ℕ) (which : Which) (actions : Actions) → Command
  SetSeverity : (scope : List ℕ) (from : Severity) (id : Option (List ℕ)) (to : Severity) → Command
  SetQuitLimit : (limit : ℕ) → Command
  Issue : (path : List (List ℕ)) (report : Report) → Command

-- the reports whose severity is changed: those of a severity, or those of a severity with an id
abbrev pub which_from : Severity → Option (List ℕ) → Which
which_from from None = which.Severity from
which_from from (Some id) = which.Both from id

-- the setting of a verbosity level that a command makes, if it makes one
abbrev pub level_in : Command → Option (Setting ℕ)
level_in (SetVerbosity scope which level) = Some (record { scope = scope; which = which; value = level })
level_in command = None

-- the setting of report actions that a command makes, if it makes one
abbrev pub actions_in : Command → Option (Setting Actions)
actions_in (SetAction scope which actions) = Some (record { scope = scope; which = which; value = actions })
actions_in command = None

-- the change of severities that a command makes, if it makes one
abbrev pub severity_in : Command → Option (Setting Severity)
severity_in (SetSeverity scope from id to) = Some (record { scope = scope; which = which_from from id; value = to })
severity_in command = None

-- the quit limit that a command sets, if it sets one
abbrev pub limit_in : Command → Option ℕ
limit_in (SetQuitLimit limit) = Some limit
limit_in command = None

-- the choice at a path's text among the settings of one kind that some commands make
abbrev pub chosen : {A : Type 0} → (Command → Option (Setting A)) → List Command → List ℕ → Lookup A
chosen sort commands text = choice_among (filter_map sort commands) text

-- the quit limit: the last that was set, or 0 for none
abbrev pub quit_limit : List Command → ℕ
quit_limit commands = unwrap_or (newest (filter_map limit_in commands)) 0

-- the ruling for a report at a path: the severity, level and actions that the settings of some commands determine
abbrev pub given_ruling : List Command → List (List ℕ) → Report → Ruling
given_ruling commands path report =
    ruling_by (chosen severity_in commands (path_text path)) (chosen level_in commands (path_text path)) (chosen actions_in commands (path_text path)) report

-- a report that was issued: its severity, its id, and whether it has the action `count`
pub record IssuedReport : Type 0 where
  pub severity : Severity
  pub id : List ℕ
  pub count : Bool

-- a report as it is issued under a ruling, if it is issued
abbrev pub issued_as : Report → Ruling → Option IssuedReport
issued_as report ruling =
    if is_issued report ruling then Some (record { severity = ruling.severity; id = report.id; count = ruling.actions.count }) else None

-- the report that a command issues, if any, by the settings of the commands before it
abbrev pub issued_in : List Command → Command → Option IssuedReport
issued_in older (Issue path report) = issued_as report (given_ruling older path report)
issued_in older command = None

-- the reports that some commands issue, newest first, each by the settings of the commands before it
abbrev pub issued_reports : List Command → List IssuedReport
issued_reports [] = []
issued_reports (command ∷ older) = cons_option (issued_in older command) (issued_reports older)

-- how many of some issued reports have a severity
abbrev pub severity_count : Severity → List IssuedReport → ℕ
severity_count severity issued = length (filter (λ report. same_severity report.severity severity) issued)

-- how many of some issued reports have the action `count`
abbrev pub quit_count : List IssuedReport → ℕ
quit_count issued = length (filter (λ report. report.count) issued)

-- how many reports with the action `count` some commands issue
unfoldable pub quit_total : List Command → ℕ
quit_total commands = quit_count (issued_reports commands)

-- each of some ids once, in the order in which they first occurred; the list of ids is newest first
abbrev pub distinct_ids : List (List ℕ) → List (List ℕ)
distinct_ids [] = []
distinct_ids (id ∷ older) = if list_any (pointwise nat_eq id) older then distinct_ids older else distinct_ids older ++ id ∷ []

-- each of some ids with the number of its occurrences
abbrev pub id_counts : List (List ℕ) → List (List ℕ × ℕ)
id_counts ids = map (λ id. (id, length (filter (pointwise nat_eq id) ids))) (distinct_ids ids)

-- the counts of some issued reports
abbrev pub counts_in : List IssuedReport → Counts
counts_in issued = record {
  info = severity_count Info issued;
  warning = severity_count Warning issued;
  error = severity_count Error issued;
  fatal = severity_count Fatal issued;
  ids = id_counts (map (λ report. report.id) issued);
  quit = quit_count issued;
}

-- the counts of issued reports after some commands
unfoldable pub report_counts : List Command → Counts
report_counts commands = counts_in (issued_reports commands)

-- whether a command is an `Issue` command
abbrev pub is_issue : Command → Bool
is_issue (Issue path report) = true
is_issue command = false

-- how a report at a path is handled after some commands
abbrev pub report_fate : List Command → List (List ℕ) → Report → Fate
report_fate commands path report =
    fate_of report (given_ruling commands path report) (is_reached (quit_limit commands) (quit_total (Issue path report ∷ commands)))

-- how the report of a command is handled, if the command has one
abbrev pub fate_in : List Command → Command → Option Fate
fate_in older (Issue path report) = Some (report_fate older path report)
fate_in older command = None

-- how each report of some commands is handled, newest first
abbrev pub fates_of : List Command → List Fate
fates_of [] = []
fates_of (command ∷ older) = cons_option (fate_in older command) (fates_of older)

-- whether a report of some commands asked for the end of the run
abbrev pub is_exit_asked : List Command → Bool
is_exit_asked commands = list_any asks_exit (fates_of commands)
