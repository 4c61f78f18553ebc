use Rattle.uvm_sequencer.proofs.Common.{◌≡◌, ◌<◌, ◌+◌, ◌∙◌, ap, sym, refl, true, Some, drop, length, suc, arith, slice_get, slice_get_read, first_over, contending, is_contending, priority_of}
use Rattle.uvm_sequencer.proofs.Contenders.{contending-at, over-at}
use Rattle.uvm_sequencer.proofs.choices.Choices.first_over.Goals as goal

-- the sum exceeds the number here
pub returns-then-n-sum : goal.returns-then-n-sum
returns-then-n-sum c =
    let s = c.args.self.now in
    let queue = s.queue.now in
    let request = c.request-item.result in
    let at : slice_get queue c.loop-place.place ≡ Some request = slice_get_read queue (length queue) c.loop-place.place request refl c.loop-place-test.true c.request-item.is in
    let passes : is_contending s.sequences.now.started s.holders.now.list c.args.bar request ≡ true = sym c.is_contending.ensures ∙ c.if-is_contending.true in
    let less : c.args.n < c.loop-place.sum + priority_of request = omega (arith, c.if-n-sum.true, c.from-sum.ensures, c.priority.ensures) in
    at ∙ sym (c.loop-place.invariant.same
    ∙ ap (first_over c.loop-place.sum c.args.n) (contending-at s.sequences.now.started s.holders.now.list c.args.bar queue c.loop-place.place request at passes)
    ∙ over-at c.loop-place.sum c.args.n request (contending s.sequences.now.started s.holders.now.list c.args.bar (drop (suc c.loop-place.place) queue)) less)
