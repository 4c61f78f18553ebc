use Rattle.uvm_report.proofs.Common.{◌∙◌, ap, lossy}
use Rattle.uvm_report.proofs.Literals.{lossy_same, lossy_sound}
use Rattle.uvm_report.proofs.texts.Text.lossy.Goals as goal

pub invariant_of-result : goal.invariant_of-result
invariant_of-result c = rw (c.in_ok-bytes.ensures ∙ ap lossy c.as_bytes.ensures.value) (lossy_sound c.args.text.now)

pub returns-clause-same : goal.returns-clause-same
returns-clause-same c = λ none. c.in_ok-bytes.ensures ∙ (ap lossy c.as_bytes.ensures.value ∙ lossy_same c.args.text.now none)
