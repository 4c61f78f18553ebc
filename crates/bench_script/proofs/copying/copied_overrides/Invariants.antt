use Rattle.std.proofs.Common.{◌≡◌, take}
use Rattle.bench_script.proofs.copying.copied_overrides.Given as goal

-- the overrides so far
abbrev pub invariant-loop-given : goal.invariant-loop-given
invariant-loop-given l = l.copied.items ≡ take l.given-index l.overrides
