use Rattle.std.proofs.Common.{◌≡◌, ◌-◌, length, nat_eq}
use Rattle.std.specs.HashMap.{get}
use Rattle.bench_waves.proofs.Waved.{HasShown}
use Rattle.bench_waves.proofs.waves.write_changes.Given as goal

-- the changes of the entries so far were written
abbrev pub invariant-loop-places : goal.invariant-loop-places
invariant-loop-places g l = record {
  ended : l.replay.ended ≡ l.fn.replay.ended;
  signals : l.signals ≡ l.fn.scope.signals.items;
  shown : HasShown l.fn.replay.ended.script l.fn.replay.ended.history l.replay.core.history l.fn.scope.signals.items l.fn.changes.steps (g.W.Write.contents l.fn.out) (g.W.Write.contents l.out) (get nat_eq l.locks) l.changes;
}

-- an entry less is left
abbrev pub decreases-loop-places : goal.decreases-loop-places
decreases-loop-places g l = length l.replay.ended.history - length l.replay.core.history
