use Rattle.world_state.proofs.Common.{verbosity_command}
use Rattle.world_state.proofs.ReportsGiven.{given-more}
use Rattle.world_state.proofs.report_state.set_verbosities.Goals as goal

-- one more
pub loop-setting-preserved : goal.loop-setting-preserved
loop-setting-preserved c = λ commands kept.
    rw (given-more verbosity_command c.args.given.now c.loop-setting.setting-index c.setting-item.result c.loop-setting-test.true, ← c.setting-item.is, ← c.in_ok-scope.ensures)
    (c.in_ok-set_verbosity.ensures _ _ (c.loop-setting.invariant commands kept))
