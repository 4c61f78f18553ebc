use Rattle.bench_kernel.proofs.Newcomers.{made-are-new}
use Rattle.bench_kernel.proofs.laws.made_are_new.Goals as goal

-- the laws of legal logs say it
pub returns : goal.returns
returns c = made-are-new c.hold.ensures
