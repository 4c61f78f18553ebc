use Rattle.bench_history.proofs.Requesting.{item_waits_are_single}
use Rattle.bench_history.proofs.legal_logs.item_waits_are_single.Goals as goal

pub returns : goal.returns
returns c = item_waits_are_single c.order_keeps_all.ensures c.lock_excludes.ensures
