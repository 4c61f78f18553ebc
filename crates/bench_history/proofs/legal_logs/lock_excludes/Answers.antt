use Rattle.bench_history.proofs.Holding.{lock_excludes}
use Rattle.bench_history.proofs.legal_logs.lock_excludes.Goals as goal

pub returns : goal.returns
returns c = lock_excludes c.order_keeps_all.ensures c.lock_excludes.ensures c.holders_stay_nested.ensures
