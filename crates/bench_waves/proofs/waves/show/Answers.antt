use Rattle.bench_waves.proofs.Dumps.{shows-both, shows-none}
use Rattle.bench_waves.proofs.waves.show.Goals as goal

-- nothing was written before the first place
pub loop-place-init : goal.loop-place-init
loop-place-init g c = shows-none c.args.world.now.script c.args.world.now.history c.args.signals.now c.args.changes.now (g.W.Write.contents c.args.out.now)

-- one place more
pub loop-place-preserved : goal.loop-place-preserved
loop-place-preserved g c =
    let contents = g.W.Write.contents in
    shows-both c.args.world.now.script c.args.world.now.history c.args.signals.now c.args.changes.now c.loop-place.changes c.show_one.new.changes (contents c.args.out.now) (contents c.loop-place.out) (contents c.show_one.new.out)
    c.loop-place.invariant c.in_ok-show_one.ensures
