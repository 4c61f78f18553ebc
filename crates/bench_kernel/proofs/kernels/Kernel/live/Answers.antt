use Rattle.bench_kernel.proofs.Common.{arith}
use Rattle.bench_kernel.proofs.kernels.Kernel.live.Goals as goal

pub overflow_add-result : goal.overflow_add-result
overflow_add-result g c = omega (arith, c.len.ensures.small, c.len-2.ensures.small)

pub returns-clause-made : goal.returns-clause-made
returns-clause-made g c = rw (← c.self.view_is) c.self.invariant.0.custody.made

pub returns-clause-named : goal.returns-clause-named
returns-clause-named g c = rw (← c.self.view_is) c.self.invariant.0.custody.named

pub returns-clause-whole : goal.returns-clause-whole
returns-clause-whole g c = rw (← c.self.view_is) c.self.invariant.0.custody.whole

pub returns-clause-told : goal.returns-clause-told
returns-clause-told g c = rw (← c.self.view_is) c.self.invariant.0.told
