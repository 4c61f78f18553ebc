use Rattle.uvm_phase.proofs.Common.{get}
use Rattle.uvm_phase.proofs.Owning.{taken-out}
use Rattle.uvm_phase.proofs.owners.Owners.take.Goals as goal

pub returns-clause-left : goal.returns-clause-left
returns-clause-left g c = λ owners counts complete.
    taken-out g.O.PartialEq.eq g.met.O.Eq.laws c.args.owner.now (get g.O.PartialEq.eq c.args.self.now.counts) (get g.O.PartialEq.eq c.remove.new.self) owners c.remove.ensures.updates.0 (counts complete)
