use Rattle.bench_kernel.proofs.Newcomers.{nobody-is-made-twice}
use Rattle.bench_kernel.proofs.laws.nobody_is_made_twice.Goals as goal

-- the laws of legal logs say it
pub returns : goal.returns
returns c = nobody-is-made-twice c.hold.ensures
