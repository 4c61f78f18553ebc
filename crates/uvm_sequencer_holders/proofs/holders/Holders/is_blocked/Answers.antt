use Rattle.uvm_sequencer_holders.proofs.Common.{◌≡◌, ◌∙◌, ℕ, not, ap, sym, rules, tests, list_any, YieldsList-from_slice, any_from_yields_List, is_under, Held, HoldersValue, is_blocked}
use Rattle.uvm_sequencer_holders.proofs.Runs.{any-held}
use Rattle.uvm_sequencer_holders.proofs.holders.Holders.is_blocked.Goals as goal

pub returns : goal.returns
returns c =
    let runs = c.self.inside.runs.items in
    let out = λ (holder : ℕ). not (is_under c.args.sequences.now.started c.args.seq holder) in
    let found : c.any.result ≡ list_any (λ (held : Held). out held.seq) runs = any_from_yields_List (λ (held : Held). out held.seq) _ _ c.any.result c.any.ensures.ran (YieldsList-from_slice runs cc) (λ x b q k. search (rules, tests)) in
    found ∙ sym (any-held out runs c.self.invariant)
    ∙ ap (λ (v : HoldersValue). is_blocked c.args.sequences.now.started v.list c.args.seq) c.self.view_is
