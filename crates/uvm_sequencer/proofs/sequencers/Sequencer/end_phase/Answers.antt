use Rattle.uvm_sequencer.proofs.Waiting.{left-room}
use Rattle.uvm_sequencer.proofs.sequencers.Sequencer.end_phase.Goals as goal

pub invariant_of-self : goal.invariant_of-self
invariant_of-self c = record { room = rw c.keep_live.ensures (left-room _ c.self.inside.queue _ _ c.self.invariant.room c.keep_live-2.ensures.spare) }

pub invariant_of-self-2 : goal.invariant_of-self-2
invariant_of-self-2 c = record { room = rw c.keep_live.ensures (left-room _ c.self.inside.queue _ _ c.self.invariant.room c.keep_live-2.ensures.spare) }
