use Rattle.bench_history.proofs.Arbitrating.{strict_priority}
use Rattle.bench_history.proofs.legal_logs.strict_priority.Goals as goal

pub returns : goal.returns
returns c = strict_priority c.lock_excludes.ensures c.strict_priority.ensures
