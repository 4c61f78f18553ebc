use Rattle.world_acts_tree.proofs.Common.{Whole, factory-more}
use Rattle.world_acts_tree.proofs.overrides.override_everywhere.Goals as goal

pub returns-in-Ok : goal.returns-in-Ok
returns-in-Ok c = λ types overrides f.
    let original = rw f.types_are at c.in-Some-Some.ensures in
    let other = rw f.types_are at c.in-Some-Some.ensures' in
    rw (← original, ← other) (factory-more (Whole c.in-Some-Some.original c.in-Some-Some.new c.args.replace) c.steps_are_given.ensures c.in-Ok.ensures.types c.in-Ok.ensures.steps f)
