use Rattle.uvm_sequencer.proofs.Common.{has_priority}
use Rattle.uvm_sequencer.proofs.Passing.{all-behind}
use Rattle.uvm_sequencer.proofs.queues.Queue.behind.Goals as goal

pub returns-clause-priorities : goal.returns-clause-priorities
returns-clause-priorities c = rw c.behind.ensures.value (all-behind has_priority c.self.inside.requests c.args.known c.self.invariant.priorities)
