use Rattle.uvm_report.proofs.Common.{◌≡◌, fold, path_text, choice_among}
use Rattle.uvm_report.proofs.Given.{after_entry}
use Rattle.uvm_report.proofs.settings.ScopedSettings.prevailing.Given as goal

-- the settings that are left complete the choice
abbrev pub invariant-loop-report_scope : goal.invariant-loop-report_scope
invariant-loop-report_scope g l = fold (after_entry (path_text l.path) l.severity l.id) l.prevailing l.report_scope-iterator ≡ choice_among l.self (path_text l.path) l.severity l.id
