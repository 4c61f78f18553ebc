use Rattle.uvm_report.proofs.Common.{arith, rules, common_steps, plain-append}
use Rattle.uvm_report.proofs.lines.push_id_counts.Goals as goal

pub loop-id-preserved : goal.loop-id-preserved
loop-id-preserved c = (
  grind (arith, common_steps),
  λ rest. c.loop-id.invariant.1 (search (rules, plain-append, rest, c.in_ok-push_id_count.ensures.plain)),
)
