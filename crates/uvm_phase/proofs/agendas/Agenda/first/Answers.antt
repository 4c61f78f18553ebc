use Rattle.uvm_phase.proofs.Common.{◌≡◌, arith, option_copied, slice_get, common_steps, gets}
use Rattle.uvm_phase.proofs.Places.{least_read}
use Rattle.uvm_phase.proofs.agendas.Agenda.first.Goals as goal

pub returns-clause-least : goal.returns-clause-least
returns-clause-least g c =
    let read : option_copied c.front.result ≡ slice_get c.self.inside.dues.items 0 = grind (arith, common_steps, gets) in
    rw (← c.self.view_is) (least_read c.self.inside.dues.items c.front.result c.self.invariant.0 read)
