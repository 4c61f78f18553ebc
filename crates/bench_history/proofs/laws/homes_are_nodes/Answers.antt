use Rattle.bench_history.proofs.Homes.{homes_are_nodes}
use Rattle.bench_history.proofs.laws.homes_are_nodes.Goals as goal

pub returns : goal.returns
returns c = homes_are_nodes c.order_keeps_all.ensures c.lock_excludes.ensures
