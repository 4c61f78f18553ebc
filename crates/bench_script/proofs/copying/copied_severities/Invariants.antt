use Rattle.std.proofs.Common.{◌≡◌, take}
use Rattle.bench_script.proofs.copying.copied_severities.Given as goal

-- the changes so far
abbrev pub invariant-loop-change : goal.invariant-loop-change
invariant-loop-change l = l.copied.items ≡ take l.change-index l.changes
