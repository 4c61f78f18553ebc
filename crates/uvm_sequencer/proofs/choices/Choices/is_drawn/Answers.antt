use Rattle.uvm_sequencer.proofs.Common.{◌∙◌, sym, ap, is_some}
use Rattle.uvm_sequencer.proofs.Contenders.{is-drawn, placed}
use Rattle.uvm_sequencer.proofs.choices.Choices.is_drawn.Goals as goal

pub returns-then-is_random : goal.returns-then-is_random
returns-then-is_random c =
    let s = c.args.self.now in
    c.is_some.ensures ∙ placed s.queue.now c.nth.result c.nth.ensures.within ∙ ap is_some c.nth.ensures.value
    ∙ is-drawn c.args.mode s.sequences.now.started s.holders.now.list s.queue.now c.bar.result c.bar.ensures (sym c.is_random.ensures ∙ c.if-is_random.true)
