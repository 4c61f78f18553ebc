use Rattle.uvm_sequencer.proofs.Common.{◌≡◌, drop, slice_get, contending}
use Rattle.uvm_sequencer.proofs.choices.Choices.nth.Given as goal

-- the one that is sought, among what is left
abbrev pub invariant-loop-place : goal.invariant-loop-place
invariant-loop-place l = slice_get (contending l.self.sequences.now.started l.self.holders.now.list l.bar l.self.queue.now) l.n ≡ slice_get (contending l.self.sequences.now.started l.self.holders.now.list l.bar (drop l.place l.self.queue.now)) l.left
