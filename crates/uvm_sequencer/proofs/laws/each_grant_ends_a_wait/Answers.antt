use Rattle.uvm_sequencer.proofs.Granting.{each_grant_ends_a_wait}
use Rattle.uvm_sequencer.proofs.laws.each_grant_ends_a_wait.Goals as goal

pub returns : goal.returns
returns c = each_grant_ends_a_wait
