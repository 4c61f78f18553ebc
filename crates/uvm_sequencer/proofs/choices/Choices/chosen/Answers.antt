use Rattle.uvm_sequencer.proofs.Common.{◌∙◌, ◌<◌, ◌%◌, sym, ap, subst, IsSome, List, length, sum_by, refl, slice_get, Request, contending, choice, contenders, candidates, priority_of}
use Rattle.uvm_sequencer.proofs.Contenders.{at-bar, sum-contenders, by-place}
use Rattle.uvm_sequencer.proofs.choices.Choices.chosen.Goals as goal

-- the first contender
pub returns-in_default : goal.returns-in_default
returns-in_default c =
    let s = c.args.self.now in
    let those = candidates s.sequences.now.started s.holders.now.list s.queue.now in
    c.nth.ensures.value
    ∙ ap (λ l. slice_get l 0) (at-bar c.args.mode s.sequences.now.started s.holders.now.list s.queue.now c.bar-bar.result c.bar-bar.ensures)
    ∙ ap (λ w. choice c.args.mode those w) (sym c.in_default.is)

pub nonzero_rem-from : goal.nonzero_rem-from
nonzero_rem-from c =
    let s = c.args.self.now in
    let P : List Request → Type 0 = λ l. 0 < sum_by priority_of l in
    let some : IsSome c.args.word = rw c.in-Some.is refl in
    rw c.sum-sum.ensures
    (subst P (sym (at-bar c.args.mode s.sequences.now.started s.holders.now.list s.queue.now c.bar-bar.result c.bar-bar.ensures))
    (sum-contenders c.args.mode s.sequences.now.started s.holders.now.list s.queue.now c.requires.priorities (c.requires.some some)))

pub nonzero_rem-word : goal.nonzero_rem-word
nonzero_rem-word c =
    let s = c.args.self.now in
    let P : List Request → Type 0 = λ l. 0 < length l in
    let some : IsSome c.args.word = rw c.in-Some.is refl in
    rw c.count-count.ensures
    (subst P (sym (at-bar c.args.mode s.sequences.now.started s.holders.now.list s.queue.now c.bar-bar.result c.bar-bar.ensures)) (c.requires.some some))

-- by its place
pub returns-in_default-2 : goal.returns-in_default-2
returns-in_default-2 c =
    let s = c.args.self.now in
    let those = candidates s.sequences.now.started s.holders.now.list s.queue.now in
    let same = at-bar c.args.mode s.sequences.now.started s.holders.now.list s.queue.now c.bar-bar.result c.bar-bar.ensures in
    c.nth-in_default-2.ensures.value
    ∙ ap (λ n. slice_get (contending s.sequences.now.started s.holders.now.list c.bar-bar.result s.queue.now) (c.in-Some.word % n)) c.count-count.ensures
    ∙ ap (λ l. slice_get l (c.in-Some.word % length l)) same
    ∙ sym (by-place c.args.mode (contenders c.args.mode those) c.in-Some.word c.in_default-2.not-Weighted)
    ∙ ap (λ w. choice c.args.mode those w) (sym c.in-Some.is)
