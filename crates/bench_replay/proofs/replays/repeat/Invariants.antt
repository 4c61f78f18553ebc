use Rattle.std.proofs.Common.{◌≡◌, length}
use Rattle.bench_replay.proofs.replays.repeat.Given as goal

-- only ended sequences were told, and no random number was drawn
abbrev pub invariant-loop-core : goal.invariant-loop-core
invariant-loop-core l = (l.core ≡ record l.fn.core { leaving = l.core.leaving }) × (l.words ≡ l.initial.words)

-- one less is to be told
abbrev pub decreases-loop-core : goal.decreases-loop-core
decreases-loop-core l = length l.core.leaving
