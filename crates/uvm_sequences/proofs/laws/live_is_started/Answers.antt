use Rattle.uvm_sequences.proofs.Living.{live_is_started}
use Rattle.uvm_sequences.proofs.laws.live_is_started.Goals as goal

pub returns : goal.returns
returns c = live_is_started
