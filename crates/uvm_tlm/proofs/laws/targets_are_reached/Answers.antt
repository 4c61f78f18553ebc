use Rattle.uvm_tlm.proofs.Targets.{targets_of_closed}
use Rattle.uvm_tlm.proofs.laws.targets_are_reached.Goals as goal

pub returns : goal.returns
returns c = targets_of_closed
