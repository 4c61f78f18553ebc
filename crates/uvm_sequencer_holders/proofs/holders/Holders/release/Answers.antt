use Rattle.uvm_sequencer_holders.proofs.Common.{◌≡◌, ◌∙◌, ◌-◌, ap, sym, arith, remove, slice_set, held_by, HoldersValue, released}
use Rattle.uvm_sequencer_holders.proofs.Runs.{none-left}
use Rattle.uvm_sequencer_holders.proofs.holders.Holders.release.Goals as goal

pub returns-else-times-gt1-clause-list : goal.returns-else-times-gt1-clause-list
returns-else-times-gt1-clause-list c =
    let one : c.in-Some.times - 1 ≡ 0 = omega (arith, c.if-times-gt1.false) in
    let runs = c.as_slice.result.now in
    ap held_by c.remove.ensures.items
    ∙ ap (λ l. held_by (remove l c.in-Some.place)) (sym c.as_slice.ensures.value)
    ∙ sym (none-left c.args.seq runs c.in-Some.place c.in-Some.ensures.within.0)
    ∙ ap (λ n. held_by (slice_set runs c.in-Some.place (record { seq = c.args.seq; times = n }))) (sym one)
    ∙ sym c.in-Some.ensures.rest
    ∙ ap (λ l. released c.args.seq (held_by l)) c.as_slice.ensures.value
    ∙ ap (λ (v : HoldersValue). released c.args.seq v.list) c.self.view_is
