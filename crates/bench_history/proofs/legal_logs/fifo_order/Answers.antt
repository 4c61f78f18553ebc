use Rattle.bench_history.proofs.Arbitrating.{fifo_order}
use Rattle.bench_history.proofs.legal_logs.fifo_order.Goals as goal

pub returns : goal.returns
returns c = fifo_order c.fifo_order.ensures
