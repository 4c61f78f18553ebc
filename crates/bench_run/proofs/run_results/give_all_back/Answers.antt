use Rattle.bench_run.proofs.Common.{◌∷◌, arith, length_permutation}
use Rattle.bench_run.proofs.run_results.give_all_back.Goals as goal

-- one less is held
pub loop-smaller-in-Some : goal.loop-smaller-in-Some
loop-smaller-in-Some g c =
    let count = length_permutation ((c.in-Some.field-0-0, c.in-Some.field-0-1) ∷ c.give_back.new.self.held) c.loop.kernel.held c.in-Some.ensures.some in
    omega (arith, count)
