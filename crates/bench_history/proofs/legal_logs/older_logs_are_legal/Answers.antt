use Rattle.bench_history.proofs.Olders.{older_logs_are_legal}
use Rattle.bench_history.proofs.legal_logs.older_logs_are_legal.Goals as goal

pub returns : goal.returns
returns c = older_logs_are_legal
