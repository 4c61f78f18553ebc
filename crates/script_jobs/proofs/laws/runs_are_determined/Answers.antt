use Rattle.script_jobs.proofs.Determined.{runs-are-determined}
use Rattle.script_jobs.proofs.laws.runs_are_determined.Goals as goal

-- they run one script over one set of objects
pub returns : goal.returns
returns c = runs-are-determined c.tables_tell_types.ensures c.answers_are_functions.ensures c.objects_are_functions.ensures c.ends_are_determined.ensures
