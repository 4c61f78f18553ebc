use Rattle.world_state.proofs.Common.{refl, SetVerbosity}
use Rattle.world_state.proofs.report_state.ReportState.set_verbosity.Goals as goal

pub returns : goal.returns
returns c = λ commands fate kept. record {
  gives = c.commands_are_given.ensures (SetVerbosity c.args.scope c.args.which c.args.level) commands _ _ kept.gives c.in_ok-set_verbosity.ensures.ok;
  exit_asked = kept.exit_asked;
  newest = refl;
}
