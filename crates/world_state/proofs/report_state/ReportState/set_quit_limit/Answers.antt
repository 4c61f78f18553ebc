use Rattle.world_state.proofs.Common.{refl, SetQuitLimit}
use Rattle.world_state.proofs.report_state.ReportState.set_quit_limit.Goals as goal

pub returns : goal.returns
returns c = λ commands fate kept. record {
  gives = c.commands_are_given.ensures (SetQuitLimit c.args.limit) commands _ _ kept.gives c.set_quit_limit.ensures.after;
  exit_asked = kept.exit_asked;
  newest = refl;
}
