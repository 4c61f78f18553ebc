use Rattle.uvm_sequences.proofs.Living.{ancestors_by_parents}
use Rattle.uvm_sequences.proofs.laws.ancestors_by_parents.Goals as goal

pub returns : goal.returns
returns c = ancestors_by_parents
