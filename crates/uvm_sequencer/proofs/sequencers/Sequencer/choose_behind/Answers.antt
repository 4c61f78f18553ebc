use Rattle.uvm_sequencer.proofs.Common.{arith}
use Rattle.uvm_sequencer.proofs.Waiting.{left-room}
use Rattle.uvm_sequencer.proofs.sequencers.Sequencer.choose_behind.Goals as goal

pub invariant_of-self : goal.invariant_of-self
invariant_of-self c = record { room = rw c.take_item-seq.ensures.after (left-room _ c.self.inside.queue c.self.inside.holders.spare _ c.self.invariant.room (omega arith)) }
