use Rattle.bench_history.proofs.Running.{living_run}
use Rattle.bench_history.proofs.laws.living_run.Goals as goal

pub returns : goal.returns
returns c = living_run c.order_keeps_all.ensures c.lock_excludes.ensures
