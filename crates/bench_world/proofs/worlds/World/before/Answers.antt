use Rattle.bench_world.proofs.Common.{◌∙◌, [], arith, IsLegal}
use Rattle.bench_world.proofs.Going.{sound-again}
use Rattle.bench_world.proofs.worlds.World.before.Goals as goal

pub invariant_of-result : goal.invariant_of-result
invariant_of-result c =
    let legal : IsLegal c.args.script [] = record { each = tt; few = omega arith } in
    (c.requires.creation, sound-again [] c.new-log.ensures.entries (c.new-log.ensures.limit ∙ c.log_limit.ensures) legal c.new.ensures.items c.requires.services)
