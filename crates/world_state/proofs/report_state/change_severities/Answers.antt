use Rattle.world_state.proofs.Common.{severity_command}
use Rattle.world_state.proofs.ReportsGiven.{given-more}
use Rattle.world_state.proofs.report_state.change_severities.Goals as goal

-- one more
pub loop-change-preserved : goal.loop-change-preserved
loop-change-preserved c = λ commands kept.
    rw (given-more severity_command c.args.given.now c.loop-change.change-index c.change-item.result c.loop-change-test.true, ← c.change-item.is, ← c.in_ok-scope.ensures)
    (c.in_ok-set_severity.ensures _ _ (c.loop-change.invariant commands kept))
