use Rattle.uvm_sequencer.proofs.Common.{◌≡◌, ◌∙◌, false, not, refl, sym, nat_eq, contains, list_any, Request, is_item, is_item_of, is_lock_of, is_of}
use Rattle.uvm_sequencer.proofs.Marks.{marked-cut, none-left}
use Rattle.uvm_sequencer.proofs.Singles.{single-left}
use Rattle.uvm_sequencer.proofs.Waiting.{all-filter}
use Rattle.uvm_sequencer.proofs.queues.Queue.leave.Goals as goal

pub invariant_of-self-then-had_item : goal.invariant_of-self-then-had_item
invariant_of-self-then-had_item c =
    let seq = c.args.seq in
    let queue = c.self.inside.requests in
    let keep = λ (request : Request). not (is_of seq request) in
    record {
      items = rw c.take_all.ensures (marked-cut is_item keep seq (contains nat_eq c.self.inside.items) (contains nat_eq c.remove-had_item.new.self) queue (λ request _. refl) c.self.invariant.items c.remove-had_item.ensures.updates.0);
      locks = rw c.take_all.ensures (marked-cut (λ request. not (is_item request)) keep seq (contains nat_eq c.self.inside.locks) (contains nat_eq c.remove-had_lock.new.self) queue (λ request _. refl) c.self.invariant.locks c.remove-had_lock.ensures.updates.0);
      priorities = rw c.take_all.ensures (all-filter _ keep queue c.self.invariant.priorities);
      single = rw c.take_all.ensures (single-left keep queue c.self.invariant.single);
    }

pub returns-else-had_lock : goal.returns-else-had_lock
returns-else-had_lock c =
    let queue = c.self.inside.requests in
    let items : list_any (is_item_of c.args.seq) queue ≡ false = sym (c.self.invariant.items c.args.seq) ∙ sym c.remove-had_item.ensures.test ∙ c.if-had_item.false in
    let locks : list_any (is_lock_of c.args.seq) queue ≡ false = sym (c.self.invariant.locks c.args.seq) ∙ sym c.remove-had_lock.ensures.test ∙ c.if-had_lock.false in
    rw (← c.self.view_is) (none-left c.args.seq queue items locks)
