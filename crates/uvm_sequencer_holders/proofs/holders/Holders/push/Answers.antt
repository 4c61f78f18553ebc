use Rattle.uvm_sequencer_holders.proofs.Common.{◌≡◌, ◌∙◌, ◌+◌, ◌-◌, ℕ, suc, [], ◌∷◌, ◌++◌, length, get_or, ap, arith, rules, slice_set, Held, held_by, HoldersValue}
use Rattle.uvm_sequencer_holders.proofs.Runs.{held-last, held-more}
use Rattle.uvm_sequencer_holders.proofs.holders.Holders.push.Goals as goal

pub returns-then-last-lt18446744073709551615-clause-list :
    goal.returns-then-last-lt18446744073709551615-clause-list
returns-then-last-lt18446744073709551615-clause-list c =
    let runs = c.self.inside.runs.items in
    let held = c.index.result.now in
    let place = c.len-count.result - 1 in
    let last : place + 1 ≡ length runs = search rules in
    let own : held.seq ≡ c.args.seq = search rules in
    let there : get_or runs place held ≡ held = search rules in
    let one : held.times + 1 ≡ suc held.times = omega arith in
    ap (λ n. held_by (slice_set runs place (record { seq = c.args.seq; times = n }))) one
    ∙ held-more runs place held c.args.seq held.times last (there ∙ ap (λ (s : ℕ). let h : Held = record { seq = s; times = held.times } in h) own)
    ∙ ap (λ (v : HoldersValue). v.list ++ c.args.seq ∷ []) c.self.view_is

pub returns-clause-list : goal.returns-clause-list
returns-clause-list c =
    ap held_by c.in-Ok.ensures.items ∙ held-last c.self.inside.runs.items c.args.seq
    ∙ ap (λ (v : HoldersValue). v.list ++ c.args.seq ∷ []) c.self.view_is
