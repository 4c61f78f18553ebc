use Rattle.uvm_sequencer.proofs.Common.{rules, filter_same}
use Rattle.uvm_sequencer.proofs.requests.keep_live.Goals as goal

pub returns : goal.returns
returns c = filter_same _ _ _ (λ x b f' k. search rules) _ _ c.retain.ensures.filtered
