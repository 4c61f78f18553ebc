use Rattle.uvm_sequencer_holders.proofs.Common.{◌≡◌, ◌∙◌, length, ap, rules, ◌==◌, HoldersValue}
use Rattle.uvm_sequencer_holders.proofs.Runs.{none-there}
use Rattle.uvm_sequencer_holders.proofs.holders.Holders.is_empty.Goals as goal

pub returns : goal.returns
returns c =
    let runs : c.is_empty.result ≡ (length c.self.inside.runs.items == 0) = search rules in
    runs ∙ none-there c.self.inside.runs.items c.self.invariant ∙ ap (λ (v : HoldersValue). length v.list == 0) c.self.view_is
