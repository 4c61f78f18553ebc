use Rattle.std.proofs.Common.{◌≡◌, take}
use Rattle.bench_script.proofs.copying.copied_verbosities.Given as goal

-- the settings so far
abbrev pub invariant-loop-setting : goal.invariant-loop-setting
invariant-loop-setting l = l.copied.items ≡ take l.setting-index l.settings
