use Rattle.uvm_sequencer.proofs.Hands.{one_item_out}
use Rattle.uvm_sequencer.proofs.laws.one_item_out.Goals as goal

pub returns : goal.returns
returns c = one_item_out
