use Rattle.bench_kernel.proofs.Common.{CoreValue, IsKernel, Bool, false, None, all_held, ap, sym, subst, failed_of}
use Rattle.bench_kernel.proofs.Preserved.{kept-new}
use Rattle.bench_kernel.proofs.kernels.Kernel.new.Goals as goal

pub invariant_of-result : goal.invariant_of-result
invariant_of-result g c =
    let m = g.O.UvmObject in
    let kept = kept-new m.view m.name m.says c.args.script c.in_ok-new.field-0 c.new-2.result.taken c.new-3.result.held c.new-3.result.count c.in_ok-new.ensures.ok.1 c.new-2.ensures c.new-3.ensures.held c.new-3.ensures.count in
    let same = ap (λ (core : CoreValue). failed_of false None core.health) c.in_ok-new.ensures.ok.1 in
    (subst (λ (failed : Bool). IsKernel m.view m.name m.says (record { core = c.in_ok-new.field-0; held = all_held c.new-2.result.taken c.new-3.result.held; failed = failed; unknown = None })) (sym same) kept.0, kept.1)
