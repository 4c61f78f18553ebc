use Rattle.bench_history.proofs.Standings.{components_by_kind}
use Rattle.bench_history.proofs.laws.components_by_kind.Goals as goal

pub returns : goal.returns
returns c = components_by_kind
