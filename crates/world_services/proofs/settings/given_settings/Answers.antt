use Rattle.world_services.proofs.Common.{given_setting, given-more}
use Rattle.world_services.proofs.Configured.{settings-none}
use Rattle.world_services.proofs.settings.given_settings.Goals as goal

pub loop-setting-init : goal.loop-setting-init
loop-setting-init c = settings-none c.none_set_no_answer.ensures c.new-settings.ensures.answers c.new-settings.ensures.accepted

-- one more setting
pub loop-setting-preserved : goal.loop-setting-preserved
loop-setting-preserved c =
    rw (given-more given_setting c.args.given.now c.loop-setting.setting-index c.setting-item.result c.loop-setting-test.true, ← c.setting-item.is)
    (c.in_ok-set_given.ensures _ c.loop-setting.invariant)
