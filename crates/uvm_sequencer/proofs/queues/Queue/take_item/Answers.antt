use Rattle.uvm_sequencer.proofs.Common.{◌≡◌, ◌∙◌, ap, true, not, sym, subst, nat_eq, Some, List, ◌&&◌, contains, slice_get, option_map, IsSomeAnd, Request, is_item, is_item_of, is_of, without_item}
use Rattle.uvm_sequencer.proofs.Marks.{marked-cut, marked-kept}
use Rattle.uvm_sequencer.proofs.Singles.{single-left}
use Rattle.uvm_sequencer.proofs.Taking.{item-at, item_out, lock_stays, removed-at, same}
use Rattle.uvm_sequencer.proofs.Waiting.{all-filter}
use Rattle.uvm_sequencer.proofs.queues.Queue.take_item.Goals as goal

-- what stood there is what was taken
there : (c : goal.After-remove) → (slice_get c.self.inside.requests c.args.place ≡ Some c.remove-seq.result) × (is_item c.remove-seq.result ≡ true)
there c =
    let P : List Request → Type 0 = λ l. IsSomeAnd (slice_get l c.args.place) (λ request. is_item request ≡ true) in
    item-at c.self.inside.requests c.args.place c.remove-seq.result (subst P (sym c.self.view_is) c.requires) c.remove-seq.ensures.value

left : (c : goal.After-remove) → c.remove-seq.new.self ≡ without_item c.remove-seq.result.seq c.self.inside.requests
left c =
    let request = c.remove-seq.result in
    let own : is_item_of request.seq request ≡ true = ap (λ b. b && is_item request) (same request.seq) ∙ (there c).1 in
    c.remove-seq.ensures.items ∙ removed-at (is_item_of request.seq) c.self.inside.requests c.args.place request (there c).0 own (c.self.invariant.single request.seq).0

pub invariant_of-self : goal.invariant_of-self
invariant_of-self c =
    let seq = c.remove-seq.result.seq in
    let queue = c.self.inside.requests in
    let keep = λ (request : Request). not (is_item_of seq request) in
    record {
      items = rw (left c) (marked-cut is_item keep seq (contains nat_eq c.self.inside.items) (contains nat_eq c.remove.new.self) queue (λ request item. item_out (is_of seq request) item) c.self.invariant.items c.remove.ensures.updates.0);
      locks = rw (left c) (marked-kept (λ request. not (is_item request)) keep (contains nat_eq c.self.inside.locks) queue (λ request lock. lock_stays (is_of seq request) (is_item request) lock) c.self.invariant.locks);
      priorities = rw (left c) (all-filter _ keep queue c.self.invariant.priorities);
      single = rw (left c) (single-left keep queue c.self.invariant.single);
    }

pub returns-clause-value : goal.returns-clause-value
returns-clause-value c = rw (← c.self.view_is) (ap (option_map (λ (request : Request). request.seq)) (there c).0)

pub returns-clause-after : goal.returns-clause-after
returns-clause-after c = rw (← c.self.view_is) (left c)
