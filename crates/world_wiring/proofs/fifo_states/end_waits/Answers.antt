use Rattle.world_wiring.proofs.Common.{◌∙◌, ap, nat_eq, rules, lookup, lookup-map_values, map_same_pairs, without_waits}
use Rattle.world_wiring.proofs.fifo_states.end_waits.Goals as goal

pub returns : goal.returns
returns c = λ n.
    ap (lookup (nat_eq n)) (map_same_pairs _ (without_waits c.args.phase) _ (λ k v b w f' t. search rules) _ _ c.retain.ensures.filtered)
    ∙ lookup-map_values (without_waits c.args.phase) (nat_eq n) c.args.fifo_states.now.entries
