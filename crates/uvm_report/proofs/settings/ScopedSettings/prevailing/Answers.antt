use Rattle.uvm_report.proofs.Common.{◌∙◌, path_text}
use Rattle.uvm_report.proofs.Given.{choice-all}
use Rattle.uvm_report.proofs.settings.ScopedSettings.prevailing.Goals as goal

-- none so far
pub loop-report_scope-init : goal.loop-report_scope-init
loop-report_scope-init g c =
    rw (c.into_iter-report_scope-iterator.ensures.into_iter_gives ∙ c.iter-report_scope-items.ensures.rest, ← c.self.view_is)
    (choice-all c.self.inside.settings.entries (path_text c.args.path.now) c.args.severity c.args.id.now)
