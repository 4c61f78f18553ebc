use Rattle.uvm_report.proofs.Replaced.{equal-report_scope, choice-moved}
use Rattle.uvm_report.proofs.settings.ScopedSettings.add.Goals as goal

pub returns-clause-choices : goal.returns-clause-choices
returns-clause-choices g c = λ text severity id.
    rw (c.in_ok-insert_before.ensures.entries, c.in_ok-insert_before.ensures.index, c.len.ensures.len, ← c.self.view_is)
    (choice-moved _ equal-report_scope c.args.report_scope c.args.value c.self.inside.settings.entries text severity id)
