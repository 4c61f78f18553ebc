use Rattle.bench_waves.specs.Dumps.{ShowsMore}
use Rattle.bench_waves.proofs.waves.show.Given as goal

-- the changes so far were written
abbrev pub invariant-loop-place : goal.invariant-loop-place
invariant-loop-place g l = ShowsMore l.world.script l.world.history l.signals l.fn.changes l.changes (g.W.Write.contents l.fn.out) (g.W.Write.contents l.out)
