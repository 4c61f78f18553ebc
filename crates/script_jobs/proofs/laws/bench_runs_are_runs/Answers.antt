use Rattle.script_jobs.proofs.ReadRuns.{runs_of_benches}
use Rattle.script_jobs.proofs.laws.bench_runs_are_runs.Goals as goal

pub returns : goal.returns
returns c = runs_of_benches
