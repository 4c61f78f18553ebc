use Rattle.bench_run.proofs.Common.{◌≡◌, true, length, is_done}
use Rattle.bench_run.proofs.run_results.give_all_back.Given as goal

-- objects may be given back all the while, and nothing else changes
abbrev pub invariant-loop : goal.invariant-loop
invariant-loop g l = (is_done l.kernel ≡ true) × (l.kernel ≡ record l.fn.kernel { held = l.kernel.held })

abbrev pub decreases-loop : goal.decreases-loop
decreases-loop g l = length l.kernel.held
