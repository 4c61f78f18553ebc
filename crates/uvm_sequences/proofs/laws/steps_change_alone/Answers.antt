use Rattle.uvm_sequences.proofs.Living.{steps_change_alone}
use Rattle.uvm_sequences.proofs.laws.steps_change_alone.Goals as goal

pub returns : goal.returns
returns c = steps_change_alone
