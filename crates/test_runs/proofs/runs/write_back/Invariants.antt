use Rattle.std.proofs.Common.{◌≡◌, true}
use Rattle.bench_run.specs.Kernels.{is_done}
use Rattle.test_runs.proofs.runs.write_back.Given as goal

abbrev pub invariant-loop : goal.invariant-loop
invariant-loop g l = is_done l.kernel ≡ true
