use Rattle.bench_history.proofs.Driving.{asks_are_in_phase}
use Rattle.bench_history.proofs.laws.asks_are_in_phase.Goals as goal

pub returns : goal.returns
returns c = asks_are_in_phase c.order_keeps_all.ensures c.lock_excludes.ensures
