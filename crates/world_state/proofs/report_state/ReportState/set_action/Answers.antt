use Rattle.world_state.proofs.Common.{refl, SetAction}
use Rattle.world_state.proofs.report_state.ReportState.set_action.Goals as goal

pub returns : goal.returns
returns c = λ commands fate kept. record {
  gives = c.commands_are_given.ensures (SetAction c.args.scope c.args.which c.args.actions) commands _ _ kept.gives c.in_ok-set_action.ensures.ok;
  exit_asked = kept.exit_asked;
  newest = refl;
}
