use Rattle.uvm_phase.proofs.Common.{owners_of}
use Rattle.uvm_phase.proofs.agendas.Agenda.reserve.Goals as goal

pub invariant_of-self-2 : goal.invariant_of-self-2
invariant_of-self-2 g c =
    let owners = owners_of c.self.inside.dues.items in
    rw c.make_room.ensures.items (c.self.invariant.0, c.reserve.ensures.counts owners (c.make_room.ensures.counts owners c.self.invariant.1))
