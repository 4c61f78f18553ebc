use Rattle.bench_history.proofs.Called.{new_nodes_are_unasked}
use Rattle.bench_history.proofs.laws.new_nodes_are_unasked.Goals as goal

pub returns : goal.returns
returns c = new_nodes_are_unasked c.order_keeps_all.ensures c.lock_excludes.ensures
