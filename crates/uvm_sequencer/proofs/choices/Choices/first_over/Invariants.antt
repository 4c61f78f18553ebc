use Rattle.uvm_sequencer.proofs.Common.{◌≡◌, ◌≤◌, ◌*◌, drop, first_over, contending}
use Rattle.uvm_sequencer.proofs.choices.Choices.first_over.Given as goal

-- the one that is sought, among what is left
abbrev pub invariant-loop-place : goal.invariant-loop-place
invariant-loop-place l = record {
  small : l.sum ≤ 65535 * l.place;
  same : first_over 0 l.n (contending l.self.sequences.now.started l.self.holders.now.list l.bar l.self.queue.now) ≡ first_over l.sum l.n (contending l.self.sequences.now.started l.self.holders.now.list l.bar (drop l.place l.self.queue.now));
}
