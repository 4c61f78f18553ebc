use Rattle.uvm_tlm.proofs.Agreeing.{targets_accept}
use Rattle.uvm_tlm.proofs.laws.targets_accept_the_kind.Goals as goal

pub returns : goal.returns
returns c = targets_accept
