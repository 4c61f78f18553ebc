use Rattle.bench_history.proofs.Forward.{on_time}
use Rattle.bench_history.proofs.legal_logs.on_time.Goals as goal

pub returns : goal.returns
returns c = on_time c.settled_go_by_totals.ensures c.begun_drains_are_held.ensures c.places_stay.ensures c.nodes_grow.ensures
