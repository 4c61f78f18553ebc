use Rattle.uvm_sequencer.proofs.Common.{◌≡◌, ◌∙◌, ap, not, sym, nat_eq, Some, contains, slice_get, option_and_then, Request, is_item, is_lock_of, is_of, lock_in, without_lock}
use Rattle.uvm_sequencer.proofs.Marks.{marked-cut, marked-kept}
use Rattle.uvm_sequencer.proofs.Singles.{single-left}
use Rattle.uvm_sequencer.proofs.Taking.{item_stays, lock_out, removed-lock}
use Rattle.uvm_sequencer.proofs.Waiting.{all-filter}
use Rattle.uvm_sequencer.proofs.queues.Queue.take_lock.Goals as goal

left : (c : goal.After-remove-2) → c.remove.new.self ≡ without_lock c.in_ok-seq.seq c.self.inside.requests
left c =
    let lock : option_and_then lock_in (slice_get c.self.inside.requests c.args.place) ≡ Some c.in_ok-seq.seq =
    ap (λ l. option_and_then lock_in (slice_get l c.args.place)) c.self.view_is ∙ sym c.lock_at.ensures ∙ c.in_ok-seq.was in
    c.remove.ensures.items ∙ removed-lock c.in_ok-seq.seq c.self.inside.requests c.args.place lock (c.self.invariant.single c.in_ok-seq.seq).1

pub invariant_of-self : goal.invariant_of-self
invariant_of-self c =
    let seq = c.in_ok-seq.seq in
    let queue = c.self.inside.requests in
    let keep = λ (request : Request). not (is_lock_of seq request) in
    record {
      items = rw (left c) (marked-kept is_item keep (contains nat_eq c.self.inside.items) queue (λ request item. item_stays (is_of seq request) item) c.self.invariant.items);
      locks = rw (left c) (marked-cut (λ request. not (is_item request)) keep seq (contains nat_eq c.self.inside.locks) (contains nat_eq c.remove-2.new.self) queue (λ request lock. lock_out (is_of seq request) (is_item request) lock) c.self.invariant.locks c.remove-2.ensures.updates.0);
      priorities = rw (left c) (all-filter _ keep queue c.self.invariant.priorities);
      single = rw (left c) (single-left keep queue c.self.invariant.single);
    }

pub returns-clause-after : goal.returns-clause-after
returns-clause-after c = rw (← c.self.view_is) (left c)
