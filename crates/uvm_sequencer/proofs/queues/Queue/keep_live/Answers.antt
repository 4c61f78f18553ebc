use Rattle.uvm_sequencer.proofs.Common.{not, Request, is_item, is_live_at}
use Rattle.uvm_sequencer.proofs.Marks.{marked-live}
use Rattle.uvm_sequencer.proofs.Singles.{single-left}
use Rattle.uvm_sequencer.proofs.Waiting.{all-filter}
use Rattle.uvm_sequencer.proofs.queues.Queue.keep_live.Goals as goal

pub invariant_of-self : goal.invariant_of-self
invariant_of-self c =
    let queue = c.self.inside.requests in
    let live = is_live_at c.args.sequences.now.steps in
    let keep = λ (request : Request). live request.seq in
    record {
      items = rw (c.keep_live.ensures, c.keep_marks.ensures) (marked-live is_item live c.self.inside.items.keys queue c.self.invariant.items);
      locks = rw (c.keep_live.ensures, c.keep_marks-2.ensures) (marked-live (λ request. not (is_item request)) live c.self.inside.locks.keys queue c.self.invariant.locks);
      priorities = rw c.keep_live.ensures (all-filter _ keep queue c.self.invariant.priorities);
      single = rw c.keep_live.ensures (single-left keep queue c.self.invariant.single);
    }
