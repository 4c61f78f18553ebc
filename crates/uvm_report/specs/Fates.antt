-- The settings that apply to a report, and how it is handled.
use Rattle.std.specs.Prelude.{ℕ, Bool, true, false, not, ◌&&◌, ◌||◌, ◌==◌, Option, Some, None, nat_le, nat_lt, if◌then◌else◌}
use Rattle.std.specs.Option.{option_map_or}
use Rattle.uvm_report.specs.declared.severities.Severity.{Severity}
use Rattle.uvm_report.specs.declared.severities.Severity.TheVariants.{Info}
use Rattle.uvm_report.specs.declared.severities.Actions.{Actions}
use Rattle.uvm_report.specs.declared.messages.Report.{Report}
use Rattle.uvm_report.specs.declared.messages.Fate.{Fate}
use Rattle.uvm_report.specs.declared.messages.Fate.TheVariants.{Dropped, Silent, Issued}
use Rattle.uvm_report.specs.Severities.{same_severity, default_actions, is_empty}
use Rattle.uvm_report.specs.ChosenValue.{ChosenValue, Lookup}
use Rattle.uvm_report.specs.Counts.{Counts, with_report}

-- the value that was chosen, or the default if there is none
abbrev pub chosen_or : {A : Type 0} → A → Option (ChosenValue A) → A
chosen_or default choice = option_map_or (λ choice. choice.value) choice default

-- the settings that apply to a report: its severity after changes, and the level and the actions for that severity
pub record Ruling : Type 0 where
  pub severity : Severity
  pub level : ℕ
  pub actions : Actions

-- the settings for a report: its severity is changed at most once, by the choice for the severity with which it was issued; the default
-- level is 200 (MEDIUM)
unfoldable pub ruling_by : Lookup Severity → Lookup ℕ → Lookup Actions → Report → Ruling
ruling_by severity_of level_of actions_of report =
    let severity = chosen_or report.severity (severity_of report.severity report.id) in
    record {
      severity = severity;
      level = chosen_or 200 (level_of severity report.id);
      actions = chosen_or (default_actions severity) (actions_of severity report.id);
    }

-- the verbosity that decides: the report's own if it was issued as INFO, otherwise 0
abbrev pub effective_verbosity : Report → ℕ
effective_verbosity report = if same_severity report.severity Info then report.verbosity else 0

-- whether a report is issued: its verbosity is not above the level, and it has an action
abbrev pub is_issued : Report → Ruling → Bool
is_issued report ruling = nat_le (effective_verbosity report) ruling.level && not (is_empty ruling.actions)

-- the counts after a report, which is counted if it is issued
unfoldable pub counts_with : Report → Ruling → Counts → Counts
counts_with report ruling counts =
    if is_issued report ruling then with_report ruling.severity report.id ruling.actions.count counts else counts

-- whether there is a quit limit and the quit count has reached it
abbrev pub is_reached : ℕ → ℕ → Bool
is_reached limit quit = not (limit == 0) && nat_le limit quit

-- how a report is handled, if it is given whether the quit count with this report has reached the limit
unfoldable pub fate_of : Report → Ruling → Bool → Fate
fate_of report ruling reached =
    if nat_lt ruling.level (effective_verbosity report) then Dropped
    else if is_empty ruling.actions then Silent
    else Issued ruling.severity ruling.actions.display (ruling.actions.exit || reached)

-- the severity with which a report is displayed, `None` if it is not displayed
abbrev pub displayed_as : Fate → Option Severity
displayed_as (Issued severity true exit) = Some severity
displayed_as fate = None

-- whether a report is issued and asks for the end of the run
abbrev pub asks_exit : Fate → Bool
asks_exit (Issued severity display exit) = exit
asks_exit fate = false
