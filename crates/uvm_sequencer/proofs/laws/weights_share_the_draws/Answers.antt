use Rattle.uvm_sequencer.proofs.Ordering.{weights_share_the_draws}
use Rattle.uvm_sequencer.proofs.laws.weights_share_the_draws.Goals as goal

pub returns : goal.returns
returns c = weights_share_the_draws
