use Rattle.bench_history.proofs.Driving.{lockers_are_there}
use Rattle.bench_history.proofs.laws.lockers_are_there.Goals as goal

pub returns : goal.returns
returns c = lockers_are_there c.order_keeps_all.ensures c.lock_excludes.ensures
