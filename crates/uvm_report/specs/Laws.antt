-- Laws of the definitions.
use Rattle.std.specs.Prelude.{◌≡◌, ◌≤◌, true, Bool, ℕ, List, [], ◌∷◌, length, filter}
use Rattle.uvm_report.specs.declared.severities.Severity.{Severity}
use Rattle.uvm_report.specs.declared.messages.Report.{Report}
use Rattle.uvm_report.specs.declared.messages.Fate.TheVariants.{Issued}
use Rattle.uvm_report.specs.Counts.{issued_number, Agree}
use Rattle.uvm_report.specs.Fates.{is_reached}
use Rattle.uvm_report.specs.Commands.{Command, is_issue, quit_limit, report_counts, report_fate}
use Rattle.uvm_report.specs.Observed.{Representation}
use Rattle.uvm_report.specs.Changes.{fate_at, IsAfter, IsNew, ReportsAgree}

-- the law that a new report server agrees with the empty list of commands
abbrev pub NewGivesNothing : Type 0
NewGivesNothing = (kept : Representation) → IsNew kept → ReportsAgree kept []

-- the law that a report server which agrees with some commands agrees, after one more, with these and that one
abbrev pub CommandsAreGiven : Type 0
CommandsAreGiven = (command : Command) (older : List Command) (old new : Representation) → ReportsAgree old older → IsAfter command old new → ReportsAgree new (command ∷ older)

-- the law that a report server which agrees with some commands handles each report as these commands determine
abbrev pub FatesAreGiven : Type 0
FatesAreGiven = (kept : Representation) (commands : List Command) → ReportsAgree kept commands → (path : List (List ℕ)) (report : Report) → fate_at kept path report ≡ report_fate commands path report

-- the counts agree, and the number of issued reports is at most the number of `Issue` commands
pub record AreCounted (commands : List Command) : Type 0 where
  pub agree : Agree (report_counts commands)
  pub few : issued_number (report_counts commands) ≤ length (filter is_issue commands)

-- the law that the counts after any commands satisfy `AreCounted`
abbrev pub CommandsAreCounted : Type 0
CommandsAreCounted = (commands : List Command) → AreCounted commands

-- the law that, once the quit count has reached the limit, each issued report asks for the end of the run
abbrev pub ReachedLimitEndsRuns : Type 0
ReachedLimitEndsRuns =
    (commands : List Command) (path : List (List ℕ)) (report : Report) (severity : Severity) (display exit : Bool)
    → is_reached (quit_limit commands) (report_counts commands).quit ≡ true
    → report_fate commands path report ≡ Issued severity display exit → exit ≡ true
