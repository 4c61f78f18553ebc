use Rattle.bench_history.proofs.Leaving.{leavers_lived}
use Rattle.bench_history.proofs.laws.leavers_lived.Goals as goal

pub returns : goal.returns
returns c = leavers_lived c.order_keeps_all.ensures c.lock_excludes.ensures
