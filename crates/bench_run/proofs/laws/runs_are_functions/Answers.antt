use Rattle.bench_run.proofs.Determined.{runs-are-functions}
use Rattle.bench_run.proofs.laws.runs_are_functions.Goals as goal

-- two such logs agree entry by entry
pub returns : goal.returns
returns g c = runs-are-functions g.O.UvmObject.view g.O.UvmObject.name g.O.UvmObject.says c.nothing_after_over.ensures c.nobody_is_made_twice.ensures
