use Rattle.uvm_sequencer_holders.proofs.Common.{◌≡◌, ◌∙◌, All, filter, ap, sym, subst, rules, filter_same, All-filter, Held, Holds, held_by, HoldersValue, is_live_at}
use Rattle.uvm_sequencer_holders.proofs.Runs.{filter-held}
use Rattle.uvm_sequencer_holders.proofs.holders.Holders.keep_live.Goals as goal
use Rattle.uvm_sequencer_holders.proofs.holders.Holders.keep_live.Goals.{After-retain}

kept : (c : After-retain) → c.retain.new.self.items ≡ filter (λ (held : Held). is_live_at c.args.sequences.now.steps held.seq) c.self.inside.runs.items
kept c = filter_same _ _ _ (λ x b f' k. search rules) _ _ c.retain.ensures.filtered

pub invariant_of-self : goal.invariant_of-self
invariant_of-self c = subst (All Holds) (sym (kept c)) (All-filter (λ (held : Held). is_live_at c.args.sequences.now.steps held.seq) Holds c.self.inside.runs.items c.self.invariant)

pub returns-clause-list : goal.returns-clause-list
returns-clause-list c =
    ap held_by (kept c) ∙ sym (filter-held (is_live_at c.args.sequences.now.steps) c.self.inside.runs.items)
    ∙ ap (λ (v : HoldersValue). filter (is_live_at c.args.sequences.now.steps) v.list) c.self.view_is
