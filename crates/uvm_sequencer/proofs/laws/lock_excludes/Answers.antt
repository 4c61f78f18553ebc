use Rattle.uvm_sequencer.proofs.Granting.{lock_excludes}
use Rattle.uvm_sequencer.proofs.laws.lock_excludes.Goals as goal

pub returns : goal.returns
returns c = lock_excludes
