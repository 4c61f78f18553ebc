use Rattle.bench_history.proofs.Phased.{phases_go_in_order}
use Rattle.bench_history.proofs.laws.phases_go_in_order.Goals as goal

pub returns : goal.returns
returns c = phases_go_in_order
