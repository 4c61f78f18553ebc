use Rattle.uvm_phase.proofs.Common.{rules, filter_same}
use Rattle.uvm_phase.proofs.agendas.take_out_owner.Goals as goal

pub returns-clause-left : goal.returns-clause-left
returns-clause-left g c = filter_same _ _ _ (λ x b f' k. search rules) _ _ c.retain.ensures.filtered
