use Rattle.world_sequencing.proofs.Common.{◌≡◌, ℕ, Option, Some, None, option_map, unwrap_or, refl, ap, nat_eq, rules, ◌∙◌, lookup, lookup-map_values, map_same_pairs}
use Rattle.world_sequencing.proofs.grant_indexes.GrantIndex.reopen.Goals as goal

none-left : (kept : Option ℕ) → unwrap_or (option_map {U = ℕ} (λ (known : ℕ). 0) kept) 0 ≡ 0
none-left None = refl
none-left (Some known) = refl

pub returns-clause-known : goal.returns-clause-known
returns-clause-known c =
    let change : ℕ → ℕ = λ known. 0 in
    λ n.
    ap (λ (kept : Option ℕ). unwrap_or kept 0) (ap (lookup (nat_eq n)) (map_same_pairs _ change _ (λ k v b w f' t. search rules) _ _ c.retain.ensures.filtered) ∙ lookup-map_values change (nat_eq n) c.args.self.now.passed.entries)
    ∙ none-left (lookup (nat_eq n) c.args.self.now.passed.entries)
