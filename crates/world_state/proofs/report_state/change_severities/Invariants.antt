use Rattle.world_state.proofs.Common.{List, None, map, reverse, take, ◌++◌, Command, severity_command, IsReportState}
use Rattle.world_state.proofs.report_state.change_severities.Given as goal

-- those so far are set
abbrev pub invariant-loop-change : goal.invariant-loop-change
invariant-loop-change l = (commands : List Command) → IsReportState commands None l.initial.report_state → IsReportState (reverse (map severity_command (take l.change-index l.given)) ++ commands) None l.report_state
