use Rattle.world_state.proofs.Shown.{line_lost}
use Rattle.world_state.proofs.report_lines.ReportSite.push_stored_act.Goals as goal

-- the line that was not written has bytes
pub returns-in_err-report-in-Refused-default-clause-some : goal.returns-in_err-report-in-Refused-default-clause-some
returns-in_err-report-in-Refused-default-clause-some c = rw c.in-Refused-default.is-0 (line_lost c.from_residual.result c.args.self.now.severity _ _ _ _)

pub returns-in_ok-report-in-Refused-default-clause-some : goal.returns-in_ok-report-in-Refused-default-clause-some
returns-in_ok-report-in-Refused-default-clause-some c = rw c.in-Refused-default.is-0 (line_lost c.push_own.result c.args.self.now.severity _ _ _ _)

pub returns-in-Done-Report-clause-some : goal.returns-in-Done-Report-clause-some
returns-in-Done-Report-clause-some c = rw (c.in-Done-Report.is-0, c.in-Done-Report.is-1) (line_lost c.push_own-in-Done-Report.result c.args.self.now.severity _ _ _ _)
