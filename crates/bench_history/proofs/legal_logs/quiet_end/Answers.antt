use Rattle.bench_history.proofs.Quiet.{quiet_end}
use Rattle.bench_history.proofs.legal_logs.quiet_end.Goals as goal

pub returns : goal.returns
returns c = quiet_end c.places_stay.ensures c.nodes_grow.ensures c.total_is_sum.ensures
