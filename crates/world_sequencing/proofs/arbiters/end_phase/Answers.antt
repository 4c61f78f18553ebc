use Rattle.world_sequencing.proofs.Common.{◌∙◌, ap, nat_eq, rules, lookup, lookup-map_values, map_same_pairs, ended_at}
use Rattle.world_sequencing.proofs.arbiters.end_phase.Goals as goal

pub returns : goal.returns
returns c =
    let change = ended_at c.args.phase c.args.sequences.now.steps in
    λ n.
    ap (lookup (nat_eq n)) (map_same_pairs _ change _ (λ k v b w f' t. search rules) _ _ c.retain.ensures.filtered)
    ∙ lookup-map_values change (nat_eq n) c.args.arbiters.now.entries
