-- The report state that a run stores is the result of the commands to the report server.
use Rattle.std.specs.Prelude.{◌≡◌, ◌<◌, ◌^◌, ℕ, List, ◌∷◌, Option, Some, None}
use Rattle.uvm_report.specs.declared.messages.Report.{Report}
use Rattle.uvm_report.specs.declared.messages.Fate.{Fate}
use Rattle.uvm_report.specs.Counts.{issued_number}
use Rattle.uvm_report.specs.Commands.{Command, Issue, report_fate, is_exit_asked}
use Rattle.uvm_report.specs.Observed.{counts_of}
use Rattle.uvm_report.specs.Changes.{ReportsAgree}
use Rattle.world_state.specs.declared.report_state.ReportState.{ReportState}

-- the report state is the result of some commands: the settings and counts agree, exit was asked for or not, and the newest report has this fate
pub record IsReportState (commands : List Command) (fate : Option Fate) (kept : ReportState) : Type 0 where
  pub gives : ReportsAgree kept.reports commands
  pub exit_asked : kept.exit_asked ≡ is_exit_asked commands
  pub newest : kept.newest ≡ fate

-- one more report can be counted
abbrev pub CanReport : ReportState → Type 0
CanReport kept = issued_number (counts_of kept.reports) < 10 ^ 18

-- a report was issued at a path
abbrev pub IsReported : List (List ℕ) → Report → ReportState → ReportState → Type 0
IsReported path report old new =
    (commands : List Command) (fate : Option Fate) → IsReportState commands fate old
    → IsReportState (Issue path report ∷ commands) (Some (report_fate commands path report)) new

-- a setting was made, so that the newest entry has no report
abbrev pub HasSetting : Command → ReportState → ReportState → Type 0
HasSetting command old new = (commands : List Command) (fate : Option Fate) → IsReportState commands fate old → IsReportState (command ∷ commands) None new

-- the report state is still the result of the same commands
abbrev pub KeepsReportState : ReportState → ReportState → Type 0
KeepsReportState old new = (commands : List Command) (fate : Option Fate) → IsReportState commands fate old → IsReportState commands fate new
