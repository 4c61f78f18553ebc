use Rattle.uvm_phase.proofs.Common.{sym, ◌∙◌, ap, false≢true}
use Rattle.uvm_phase.proofs.Places.{left-in-order}
use Rattle.uvm_phase.proofs.agendas.Agenda.clear.Goals as goal

-- nothing is counted any more
pub invariant_of-self : goal.invariant_of-self
invariant_of-self g c = (
  left-in-order _ c.self.inside.dues.items c.take_out_phase.new.dues.items c.self.invariant.0 c.take_out_phase.ensures.left,
  λ complete. absurd (false≢true (sym (ap (λ owners. owners.complete) c.forget.ensures) ∙ complete)),
)
