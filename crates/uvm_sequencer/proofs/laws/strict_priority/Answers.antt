use Rattle.uvm_sequencer.proofs.Ordering.{strict_priority}
use Rattle.uvm_sequencer.proofs.laws.strict_priority.Goals as goal

pub returns : goal.returns
returns c = strict_priority
