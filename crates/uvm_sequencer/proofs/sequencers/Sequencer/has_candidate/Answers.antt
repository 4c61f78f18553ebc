use Rattle.uvm_sequencer.proofs.Common.{◌∙◌, ap, length, nat_lt, is_candidate}
use Rattle.uvm_sequencer.proofs.Contenders.{any-some}
use Rattle.uvm_sequencer.proofs.sequencers.Sequencer.has_candidate.Goals as goal

pub returns : goal.returns
returns c =
    rw (c.has_candidate.ensures, c.choices.ensures.sequences, c.choices.ensures.holders)
    (any-some (is_candidate c.args.sequences.now.started c.args.self.now.holders) c.choices.result.queue.now
    ∙ ap (λ l. nat_lt 0 (length l)) c.choices.ensures.candidates)
