use Rattle.uvm_sequencer.proofs.Common.{◌≡◌, drop, max, candidates, highest}
use Rattle.uvm_sequencer.proofs.choices.Choices.highest.Given as goal

-- the greatest so far and of what is left
abbrev pub invariant-loop-request : goal.invariant-loop-request
invariant-loop-request l = max l.highest (highest (candidates l.self.sequences.now.started l.self.holders.now.list (drop l.request-index l.self.queue.now))) ≡ highest (candidates l.self.sequences.now.started l.self.holders.now.list l.self.queue.now)
