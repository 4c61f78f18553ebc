use Rattle.std.proofs.Common.{◌+◌, rules, refl}
use Rattle.script_seeds.specs.Tallies.{IsNext}
use Rattle.script_seeds.proofs.Made.{made-more, made-none}
use Rattle.script_seeds.proofs.runs.run_all.Goals as goal

pub loop-number-init : goal.loop-number-init
loop-number-init g c = made-none c.args.bench.now c.args.seeds.first (g.W.Write.contents c.args.out.now) _ refl refl

-- one more run
pub loop-number-preserved : goal.loop-number-preserved
loop-number-preserved g c =
    let contents = g.W.Write.contents in
    let next : IsNext c.args.bench.now (c.args.seeds.first + c.loop-number.number) c.loop-number.tally c.run_next.new.tally (contents c.loop-number.out) (contents c.run_next.new.out) = search rules in
    made-more c.args.bench.now c.args.seeds.first c.loop-number.number (contents c.args.out.now) (contents c.loop-number.out) (contents c.run_next.new.out) c.loop-number.tally c.run_next.new.tally c.loop-number.invariant next
