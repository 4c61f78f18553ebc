use Rattle.bench_history.proofs.Wired.{tasks_follow_connect}
use Rattle.bench_history.proofs.laws.tasks_follow_connect.Goals as goal

pub returns : goal.returns
returns c = tasks_follow_connect c.order_keeps_all.ensures c.lock_excludes.ensures
