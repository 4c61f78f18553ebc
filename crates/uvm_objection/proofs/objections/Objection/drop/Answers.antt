use Rattle.uvm_objection.proofs.Common.{◌∙◌}
use Rattle.uvm_objection.proofs.Objecting.{none_dropped}
use Rattle.uvm_objection.proofs.objections.Objection.drop.Goals as goal

pub returns-clause-zero : goal.returns-clause-zero
returns-clause-zero c = λ zero. c.pass_up.ensures.steady zero ∙ none_dropped c.args.node c.args.count _ zero
