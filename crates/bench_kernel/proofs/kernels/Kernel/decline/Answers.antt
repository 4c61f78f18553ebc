use Rattle.bench_kernel.proofs.Common.{all_held, paths_in, refl, KernelValue, IsKernel, Health, Bool, ap, sym, subst, failed_of}
use Rattle.bench_kernel.proofs.Failing.{entered-health}
use Rattle.bench_kernel.proofs.Preserved.{below}
use Rattle.bench_kernel.proofs.Supplied.{going-where-needed, kept-declines}
use Rattle.bench_kernel.proofs.kernels.Kernel.decline.Goals as goal

pub invariant_of-self : goal.invariant_of-self
invariant_of-self g c =
    let m = g.O.UvmObject in
    let k = c.self.inside in
    let kernel : KernelValue g.row.O.Denot = record { core = k.core; held = all_held k.seats.taken k.sequences.held; failed = failed_of k.abandoned k.unknown k.core.health; unknown = k.unknown } in
    let needed = rw (← c.self.view_is) at c.requires in
    let under = below c.hold.ensures m.view m.name m.says kernel k.seats.taken k.sequences.held refl c.self.invariant.0 in
    let kept = kept-declines c.hold.ensures m.view m.name m.says kernel c.declined.new.self (paths_in k.seats.taken) k.sequences.count k.sequences.held (going-where-needed kernel needed) c.declined.ensures.one c.declined.ensures.entry under c.self.invariant in
    let same = ap (λ (health : Health). failed_of k.abandoned k.unknown health) (entered-health _ k.core c.declined.new.self c.declined.ensures.entry c.declined.ensures.one) in
    (subst (λ (failed : Bool). IsKernel m.view m.name m.says (record kernel { core = c.declined.new.self; failed = failed })) (sym same) kept.0, kept.1)
