use Rattle.world_state.proofs.Common.{◌≡◌, Some, refl, ap, sym, ◌∙◌, Issue, report_fate, asks_exit}
use Rattle.world_state.proofs.report_state.ReportState.issue.Goals as goal
use Rattle.world_state.proofs.report_state.ReportState.issue.Goals.{then-asks_exit, else-asks_exit}

pub returns-clause-ok : goal.returns-clause-ok
returns-clause-ok c = λ commands fate kept.
    let became : c.in_ok-fate.fate ≡ report_fate commands c.args.path.now c.args.report.now = c.in_ok-fate.ensures.fate ∙ c.fates_are_given.ensures _ commands kept.gives c.args.path.now c.args.report.now in
    let asks : asks_exit (report_fate commands c.args.path.now c.args.report.now) ≡ c.asks_exit.result = sym (ap asks_exit became) ∙ sym c.asks_exit.ensures in
    record {
      gives = c.commands_are_given.ensures (Issue c.args.path.now c.args.report.now) commands _ _ kept.gives c.in_ok-fate.ensures.ok;
      exit_asked = elim c.if-asks_exit.branch [
        | then-asks_exit w ↦ w.self-is ∙ w.if-asks_exit.true ∙ rw (asks ∙ w.if-asks_exit.true) refl
        | else-asks_exit w ↦ w.self-is ∙ kept.exit_asked ∙ rw (asks ∙ w.if-asks_exit.false) refl
      ];
      newest = ap Some became;
    }
