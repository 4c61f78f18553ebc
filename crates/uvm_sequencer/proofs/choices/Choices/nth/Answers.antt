use Rattle.uvm_sequencer.proofs.Common.{◌≡◌, ◌∙◌, ap, sym, refl, true, Some, drop, length, slice_get, slice_get_read, contending, is_contending}
use Rattle.uvm_sequencer.proofs.Contenders.{contending-at}
use Rattle.uvm_sequencer.proofs.choices.Choices.nth.Goals as goal

-- the first of those that are left stands here
pub returns-then-left-eq0-clause-value : goal.returns-then-left-eq0-clause-value
returns-then-left-eq0-clause-value c =
    let s = c.args.self.now in
    let queue = s.queue.now in
    let request = c.request-item.result in
    let at : slice_get queue c.loop-place.place ≡ Some request = slice_get_read queue (length queue) c.loop-place.place request refl c.loop-place-test.true c.request-item.is in
    let passes : is_contending s.sequences.now.started s.holders.now.list c.args.bar request ≡ true = sym c.is_contending.ensures ∙ c.if-is_contending.true in
    at ∙ sym (c.loop-place.invariant
    ∙ ap (slice_get (contending s.sequences.now.started s.holders.now.list c.args.bar (drop c.loop-place.place queue))) c.if-left-eq0.true
    ∙ ap (λ l. slice_get l 0) (contending-at s.sequences.now.started s.holders.now.list c.args.bar queue c.loop-place.place request at passes))
