use Rattle.bench_history.proofs.Called.{performers_are_there}
use Rattle.bench_history.proofs.laws.performers_are_there.Goals as goal

pub returns : goal.returns
returns c = performers_are_there c.order_keeps_all.ensures c.lock_excludes.ensures
