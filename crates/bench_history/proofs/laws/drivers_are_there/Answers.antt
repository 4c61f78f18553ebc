use Rattle.bench_history.proofs.Driving.{drivers_are_there}
use Rattle.bench_history.proofs.laws.drivers_are_there.Goals as goal

pub returns : goal.returns
returns c = drivers_are_there c.order_keeps_all.ensures c.lock_excludes.ensures
