use Rattle.uvm_sequencer.proofs.Passing.{passed_stays}
use Rattle.uvm_sequencer.proofs.laws.passed_stays.Goals as goal

pub returns : goal.returns
returns c = passed_stays
