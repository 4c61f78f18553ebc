use Rattle.uvm_sequencer.proofs.Starting.{starts_change_nothing}
use Rattle.uvm_sequencer.proofs.laws.starts_change_nothing.Goals as goal

pub returns : goal.returns
returns c = starts_change_nothing c.ancestors_stay.ensures
