use Rattle.uvm_sequencer.proofs.Common.{ap, sym, option_and_then, lock_in}
use Rattle.uvm_sequencer.proofs.Passing.{leading-at}
use Rattle.uvm_sequencer.proofs.sequencers.Sequencer.leading.Goals as goal

pub returns : goal.returns
returns c =
    let s = c.args.self.now in
    ap (option_and_then lock_in) (sym (leading-at c.args.sequences.now.started s.holders s.queue c.passed.result c.passed.ensures.passed.blocked c.passed.ensures.next))
