use Rattle.std.proofs.Common.{◌≡◌, ◌∙◌, ℕ, List, None, nat_eq, ap, sym, rules}
use Rattle.std.specs.Cmp.Lexicographic.{pointwise}
use Rattle.std.specs.declared.hash.FoldHasher.{FoldHasher}
use Rattle.std.specs.declared.hash.BuildHasherDefault.{BuildHasherDefault}
use Rattle.indexmap.specs.IndexMap.{get}
use Rattle.indexmap.proofs.CallerLemmas.{insert_entry-new}
use Rattle.uvm_factory.specs.Standing.{placed_at}
use Rattle.uvm_factory.proofs.Standings.{placed_at-push, placed_at-there, standing_step-more}
use Rattle.uvm_factory.proofs.standing.TypeOverrides.add.Goals as goal

-- one more instance override
pub returns-in_ok-insert-in-Instance-clause-steps : goal.returns-in_ok-insert-in-Instance-clause-steps
returns-in_ok-insert-in-Instance-clause-steps c =
    let given = c.in-Instance in
    let old = c.self.inside.instances in
    let none : get (pointwise nat_eq) old given.scope ≡ None = search rules in
    let last = c.in_ok-insert-in-Instance.ensures.entries ∙ insert_entry-new {S = BuildHasherDefault FoldHasher} _ old given.scope given.new none in
    λ text.
    rw (← c.self.view_is, given.is)
    (standing_step-more c.self.inside.by_type old.entries c.insert.new.self.entries given.original given.new given.scope text (ap (λ (entries : List (List ℕ × ℕ)). placed_at entries text) last ∙ placed_at-push old.entries given.scope given.new text))

-- one at a scope that is there
pub returns-then-contains_key-clause-steps : goal.returns-then-contains_key-clause-steps
returns-then-contains_key-clause-steps c =
    let given = c.in-Instance in
    let old = c.self.inside.instances.entries in
    λ text.
    rw (← c.self.view_is, given.is)
    (standing_step-more c.self.inside.by_type old old given.original given.new given.scope text (placed_at-there old given.scope given.new text (sym c.contains_key.ensures ∙ c.if-contains_key.true)))
