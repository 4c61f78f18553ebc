use Rattle.uvm_sequencer.proofs.Ordering.{fifo_order}
use Rattle.uvm_sequencer.proofs.laws.fifo_order.Goals as goal

pub returns : goal.returns
returns c = fifo_order
