use Rattle.std.proofs.Common.{◌≡◌, take}
use Rattle.bench_script.proofs.copying.copied_probes.Given as goal

-- the probes so far
abbrev pub invariant-loop-probe : goal.invariant-loop-probe
invariant-loop-probe l = l.copied.items ≡ take l.probe-index l.probes
