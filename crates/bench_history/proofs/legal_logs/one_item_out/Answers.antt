use Rattle.bench_history.proofs.Sending.{one_item_out}
use Rattle.bench_history.proofs.legal_logs.one_item_out.Goals as goal

pub returns : goal.returns
returns c = one_item_out c.order_keeps_all.ensures c.lock_excludes.ensures
