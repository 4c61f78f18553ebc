use Rattle.world_services.proofs.Common.{refl}
use Rattle.world_services.proofs.act_results.refused_by.Goals as goal

pub returns-clause-services : goal.returns-clause-services
returns-clause-services c = record {
  rest = rw (c.is_test_refused-services.ensures, c.node-node.ensures, c.in_ok-report_at.ensures.rest) refl;
  report_state = rw (c.requires.report, c.node-node.ensures) at c.in_ok-report_at.ensures.ok;
}
