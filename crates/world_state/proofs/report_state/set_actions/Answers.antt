use Rattle.world_state.proofs.Common.{action_command}
use Rattle.world_state.proofs.ReportsGiven.{given-more}
use Rattle.world_state.proofs.report_state.set_actions.Goals as goal

-- one more
pub loop-setting-preserved : goal.loop-setting-preserved
loop-setting-preserved c = λ commands kept.
    rw (given-more action_command c.args.given.now c.loop-setting.setting-index c.setting-item.result c.loop-setting-test.true, ← c.setting-item.is, ← c.in_ok-scope.ensures)
    (c.in_ok-set_action.ensures _ _ (c.loop-setting.invariant commands kept))
