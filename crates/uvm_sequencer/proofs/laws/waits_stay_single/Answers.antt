use Rattle.uvm_sequencer.proofs.Singles.{waits_stay_single}
use Rattle.uvm_sequencer.proofs.laws.waits_stay_single.Goals as goal

pub returns : goal.returns
returns c = waits_stay_single
