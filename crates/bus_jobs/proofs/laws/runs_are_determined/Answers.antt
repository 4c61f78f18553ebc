use Rattle.bus_jobs.proofs.Determined.{runs-are-determined}
use Rattle.bus_jobs.proofs.laws.runs_are_determined.Goals as goal

-- their logs are the same
pub returns : goal.returns
returns c = runs-are-determined c.objects_are_functions.ensures c.ends_are_determined.ensures
