use Rattle.std.proofs.Common.{◌≡◌, take}
use Rattle.bench_script.proofs.copying.copied_drains.Given as goal

-- the probes so far
abbrev pub invariant-loop-drain : goal.invariant-loop-drain
invariant-loop-drain l = l.copied.items ≡ take l.drain-index l.drains
