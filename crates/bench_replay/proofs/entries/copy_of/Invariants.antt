use Rattle.std.proofs.Common.{◌≡◌}
use Rattle.bench_replay.proofs.entries.copy_of.Given as goal

-- the actions so far are copied
abbrev pub invariant-loop-act : goal.invariant-loop-act
invariant-loop-act l = l.copy ≡ l.yielded
