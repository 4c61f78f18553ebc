use Rattle.world_sequencing.proofs.Common.{err_from_is_err_and}
use Rattle.world_sequencing.proofs.Longer.{below-fails}
use Rattle.world_sequencing.proofs.start_records.path_below.Goals as goal

pub returns-in_err-push_at-clause-err : goal.returns-in_err-push_at-clause-err
returns-in_err-push_at-clause-err c =
    let p = err_from_is_err_and c.from_residual-in_err-push_at.result c.from_residual-in_err-push_at.ensures.1 in
    let fails = below-fails c.args.path.now c.args.names.now c.loop-parent.parent-index c.parent-item.result c.args.name.now c.in_err-push_at.field-0.0 c.loop-parent-test.true (rw (c.loop-parent.invariant.0, c.parent-item.is) at c.in_err-push_at.ensures.fault) in
    rw (p.1, p.2) fails
