use Rattle.uvm_sequencer_holders.proofs.Common.{◌≡◌, ◌∙◌, not, All, filter, ap, sym, subst, rules, filter_same, All-filter, Held, Holds, held_by, HoldersValue, ◌==◌}
use Rattle.uvm_sequencer_holders.proofs.Runs.{filter-held}
use Rattle.uvm_sequencer_holders.proofs.holders.Holders.release_all.Goals as goal
use Rattle.uvm_sequencer_holders.proofs.holders.Holders.release_all.Goals.{After-retain}

kept : (c : After-retain) → c.retain.new.self.items ≡ filter (λ (held : Held). not (held.seq == c.args.seq)) c.self.inside.runs.items
kept c = filter_same _ _ _ (λ x b f' k. search rules) _ _ c.retain.ensures.filtered

pub invariant_of-self : goal.invariant_of-self
invariant_of-self c = subst (All Holds) (sym (kept c)) (All-filter (λ (held : Held). not (held.seq == c.args.seq)) Holds c.self.inside.runs.items c.self.invariant)

pub returns-clause-list : goal.returns-clause-list
returns-clause-list c =
    ap held_by (kept c) ∙ sym (filter-held (λ holder. not (holder == c.args.seq)) c.self.inside.runs.items)
    ∙ ap (λ (v : HoldersValue). filter (λ holder. not (holder == c.args.seq)) v.list) c.self.view_is
