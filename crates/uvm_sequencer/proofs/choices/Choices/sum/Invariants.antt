use Rattle.uvm_sequencer.proofs.Common.{◌≡◌, ◌≤◌, ◌+◌, ◌*◌, drop, sum_by, priority_of, contending}
use Rattle.uvm_sequencer.proofs.choices.Choices.sum.Given as goal

-- the sum so far and of what is left
abbrev pub invariant-loop-request : goal.invariant-loop-request
invariant-loop-request l = record {
  small : l.sum ≤ 65535 * l.request-index;
  sum : l.sum + sum_by priority_of (contending l.self.sequences.now.started l.self.holders.now.list l.bar (drop l.request-index l.self.queue.now)) ≡ sum_by priority_of (contending l.self.sequences.now.started l.self.holders.now.list l.bar l.self.queue.now);
}
