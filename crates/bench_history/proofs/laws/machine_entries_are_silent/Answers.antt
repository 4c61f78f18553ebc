use Rattle.bench_history.proofs.Grown.{machine_entries_are_silent}
use Rattle.bench_history.proofs.laws.machine_entries_are_silent.Goals as goal

pub returns : goal.returns
returns c = machine_entries_are_silent
