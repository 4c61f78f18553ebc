use Rattle.uvm_sequencer.proofs.Nesting.{holders_stay_nested}
use Rattle.uvm_sequencer.proofs.laws.holders_stay_nested.Goals as goal

pub returns : goal.returns
returns c = holders_stay_nested
