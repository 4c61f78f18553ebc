use Rattle.bench_kernel.proofs.Newcomers.{others-make-nobody}
use Rattle.bench_kernel.proofs.laws.others_make_nobody.Goals as goal

-- the laws of legal logs say it
pub returns : goal.returns
returns c = others-make-nobody c.hold.ensures
