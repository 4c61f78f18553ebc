use Rattle.bench_run.proofs.Ends.{ends-are-determined}
use Rattle.bench_run.proofs.laws.ends_are_determined.Goals as goal

-- their logs are the same, and a log says one ending
pub returns : goal.returns
returns g c = ends-are-determined g.O.UvmObject.view g.O.UvmObject.name g.O.UvmObject.says c.runs_are_functions.ensures
