use Rattle.uvm_phase.proofs.Common.{rules}
use Rattle.uvm_phase.proofs.Owning.{has-at}
use Rattle.uvm_phase.proofs.agendas.place_of_last.Goals as goal

pub returns-then-eq : goal.returns-then-eq
returns-then-eq g c = has-at (λ due. g.O.PartialEq.eq due.owner c.args.owner.now) c.args.dues.now.items c.in_ok-place.place c.index.result.now (search rules) (search rules) (search rules)
