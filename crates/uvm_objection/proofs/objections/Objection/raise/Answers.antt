use Rattle.uvm_objection.proofs.Common.{◌∙◌}
use Rattle.uvm_objection.proofs.Objecting.{none_raised}
use Rattle.uvm_objection.proofs.objections.Objection.raise.Goals as goal

pub returns-clause-nodes : goal.returns-clause-nodes
returns-clause-nodes c = λ time. c.pass_up.ensures.nodes time tt

pub returns-clause-zero : goal.returns-clause-zero
returns-clause-zero c = λ zero. c.pass_up.ensures.steady zero ∙ none_raised c.args.node c.args.count _ zero
