use Rattle.world_state.proofs.Common.{List, None, map, reverse, take, ◌++◌, Command, action_command, IsReportState}
use Rattle.world_state.proofs.report_state.set_actions.Given as goal

-- those so far are set
abbrev pub invariant-loop-setting : goal.invariant-loop-setting
invariant-loop-setting l = (commands : List Command) → IsReportState commands None l.initial.report_state → IsReportState (reverse (map action_command (take l.setting-index l.given)) ++ commands) None l.report_state
