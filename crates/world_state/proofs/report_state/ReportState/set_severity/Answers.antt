use Rattle.world_state.proofs.Common.{refl, SetSeverity}
use Rattle.world_state.proofs.report_state.ReportState.set_severity.Goals as goal

pub returns : goal.returns
returns c = λ commands fate kept. record {
  gives = c.commands_are_given.ensures (SetSeverity c.args.scope c.args.from c.args.id c.args.to) commands _ _ kept.gives c.in_ok-set_severity.ensures.ok;
  exit_asked = kept.exit_asked;
  newest = refl;
}
