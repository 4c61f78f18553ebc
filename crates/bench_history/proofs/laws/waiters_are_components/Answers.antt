use Rattle.bench_history.proofs.Called.{waiters_are_components}
use Rattle.bench_history.proofs.laws.waiters_are_components.Goals as goal

pub returns : goal.returns
returns c = waiters_are_components c.order_keeps_all.ensures c.lock_excludes.ensures
