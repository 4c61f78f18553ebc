use Rattle.uvm_sequencer.proofs.Common.{◌≡◌, ◌∙◌, false, not, refl, arith, nat_eq, common_steps, list_any, contains, is_item, is_item_of, item_request}
use Rattle.uvm_sequencer.proofs.Marks.{marked-last, unmarked-last}
use Rattle.uvm_sequencer.proofs.Singles.{single-item-last}
use Rattle.uvm_sequencer.proofs.queues.Queue.put_item.Goals as goal

pub invariant_of-self-in_err-put_last : goal.invariant_of-self-in_err-put_last
invariant_of-self-in_err-put_last c = record {
  items = λ seq. c.in_ok-reserve.ensures.keys.2 seq ∙ rw c.in_err-put_last.ensures.err (c.self.invariant.items seq);
  locks = rw c.in_err-put_last.ensures.err c.self.invariant.locks;
  priorities = rw c.in_err-put_last.ensures.err c.self.invariant.priorities;
  single = rw c.in_err-put_last.ensures.err c.self.invariant.single;
}

pub invariant_of-self-2 : goal.invariant_of-self-2
invariant_of-self-2 c =
    let queue = c.self.inside.requests in
    let request = item_request c.args.seq c.args.priority in
    let fresh : list_any (is_item_of c.args.seq) queue ≡ false = rw c.self.view_is c.requires.fresh in
    record {
      items = rw c.in_ok-put_last.ensures.ok (marked-last is_item (contains nat_eq c.self.inside.items) (contains nat_eq c.insert.new.self) queue request refl c.self.invariant.items
          (λ seq. c.in-Ok.ensures.updates.0 seq ∙ rw (c.in_ok-reserve.ensures.keys.2 seq) refl));
      locks = rw c.in_ok-put_last.ensures.ok (unmarked-last (λ r. not (is_item r)) (contains nat_eq c.self.inside.locks) queue request refl c.self.invariant.locks);
      priorities = grind (arith, common_steps);
      single = rw c.in_ok-put_last.ensures.ok (single-item-last queue c.args.seq c.args.priority fresh c.self.invariant.single);
    }
