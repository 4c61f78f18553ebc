use Rattle.uvm_sequences.proofs.Common.{◌≡◌, is_under}
use Rattle.uvm_sequences.proofs.starts.Sequences.is_under.Given as goal

-- the question is the same at each ancestor
abbrev pub invariant-loop-at : goal.invariant-loop-at
invariant-loop-at l = is_under l.self.started l.fn.id l.above ≡ is_under l.self.started l.at l.above

abbrev pub decreases-loop-at : goal.decreases-loop-at
decreases-loop-at l = l.at
