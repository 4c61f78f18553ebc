use Rattle.world_services.proofs.Common.{map, reverse, take, given_setting, IsSettings}
use Rattle.world_services.proofs.settings.given_settings.Given as goal

-- the settings so far are set
abbrev pub invariant-loop-setting : goal.invariant-loop-setting
invariant-loop-setting l = IsSettings (reverse (map given_setting (take l.setting-index l.given))) l.settings
