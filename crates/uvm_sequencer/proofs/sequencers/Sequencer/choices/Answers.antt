use Rattle.uvm_sequencer.proofs.Common.{◌≡◌, ap, SequencerValue}
use Rattle.uvm_sequencer.proofs.Passing.{candidates-behind}
use Rattle.uvm_sequencer.proofs.sequencers.Sequencer.choices.Goals as goal

pub returns-clause-candidates : goal.returns-clause-candidates
returns-clause-candidates c =
    let s = c.args.self.now in
    let queue : c.self.inside.queue ≡ s.queue = ap (λ (v : SequencerValue). v.queue) c.self.view_is in
    rw (c.behind.ensures.value, queue) (candidates-behind c.args.sequences.now.started s.holders s.queue c.args.known c.requires.blocked)
