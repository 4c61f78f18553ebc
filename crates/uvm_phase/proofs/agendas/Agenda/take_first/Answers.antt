use Rattle.uvm_phase.proofs.Common.{◌≡◌, ◌∷◌, rules, owners_of}
use Rattle.uvm_phase.proofs.Places.{rest-in-order}
use Rattle.uvm_phase.proofs.agendas.Agenda.take_first.Goals as goal

pub invariant_of-self-2 : goal.invariant_of-self-2
invariant_of-self-2 g c =
    let rest = c.pop_front.new.self.items in
    let is : c.self.inside.dues.items ≡ c.in_ok-first.first ∷ rest = search rules in (
      rest-in-order c.self.inside.dues.items rest c.self.invariant.0 c.pop_front.ensures.rest,
      c.subtract.ensures.counts (owners_of rest) (rw is at c.self.invariant.1),
    )
