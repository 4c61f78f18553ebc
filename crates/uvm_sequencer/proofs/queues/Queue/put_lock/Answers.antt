use Rattle.uvm_sequencer.proofs.Common.{◌≡◌, ◌∙◌, false, not, refl, arith, common_steps, list_any, contains, nat_eq, is_item, is_lock_of, lock_request}
use Rattle.uvm_sequencer.proofs.Marks.{marked-last, unmarked-last}
use Rattle.uvm_sequencer.proofs.Singles.{single-lock-last}
use Rattle.uvm_sequencer.proofs.queues.Queue.put_lock.Goals as goal

pub invariant_of-self-in_err-put_last : goal.invariant_of-self-in_err-put_last
invariant_of-self-in_err-put_last c = record {
  items = rw c.in_err-put_last.ensures.err c.self.invariant.items;
  locks = λ seq. c.in_ok-reserve.ensures.keys.2 seq ∙ rw c.in_err-put_last.ensures.err (c.self.invariant.locks seq);
  priorities = rw c.in_err-put_last.ensures.err c.self.invariant.priorities;
  single = rw c.in_err-put_last.ensures.err c.self.invariant.single;
}

pub invariant_of-self-2 : goal.invariant_of-self-2
invariant_of-self-2 c =
    let queue = c.self.inside.requests in
    let fresh : list_any (is_lock_of c.args.seq) queue ≡ false = rw c.self.view_is c.requires in
    record {
      items = rw c.in_ok-put_last.ensures.ok (unmarked-last is_item (contains nat_eq c.self.inside.items) queue (lock_request c.args.seq) refl c.self.invariant.items);
      locks = rw c.in_ok-put_last.ensures.ok (marked-last (λ request. not (is_item request)) (contains nat_eq c.self.inside.locks) (contains nat_eq c.insert.new.self) queue (lock_request c.args.seq) refl c.self.invariant.locks
          (λ seq. c.in-Ok.ensures.updates.0 seq ∙ rw (c.in_ok-reserve.ensures.keys.2 seq) refl));
      priorities = grind (arith, common_steps);
      single = rw c.in_ok-put_last.ensures.ok (single-lock-last queue c.args.seq fresh c.self.invariant.single);
    }
