use Rattle.uvm_objection.proofs.Common.{refl}
use Rattle.uvm_objection.proofs.Adding.{roomier}
use Rattle.uvm_objection.proofs.objections.Objection.reserve.Goals as goal

pub invariant_of-self-2 : goal.invariant_of-self-2
invariant_of-self-2 c = roomier c.self.inside _ c.self.invariant refl c.reserve.ensures.items c.reserve-2.ensures.entries.2
