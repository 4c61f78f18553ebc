use Rattle.uvm_objection.proofs.Common.{◌≡◌, ◌∙◌, ◌∷◌, ◌++◌, [], ℕ, Some, cond, length, nat_eq, ap, refl, true, arith, get, ObjectionValue, is_known}
use Rattle.uvm_objection.proofs.Adding.{added}
use Rattle.uvm_objection.proofs.objections.Objection.add.Goals as goal

pub invariant_of-self-2 : goal.invariant_of-self-2
invariant_of-self-2 c =
    let o = c.self.inside in
    let unknown = ap (λ (v : ObjectionValue). is_known c.args.node v.nodes) c.self.view_is ∙ c.requires.unknown in
    let yes : is_known c.args.parent c.args.self.now.nodes ≡ true = c.requires.parent in
    let above = ap (λ (v : ObjectionValue). is_known c.args.parent v.nodes) c.self.view_is ∙ yes in
    let last : c.len.result ≡ length o.entries.items = omega (arith, c.len.ensures, c.reserve.ensures.len) in
    let found : (q : ℕ) → get nat_eq c.insert.new.self q ≡ cond (nat_eq c.args.node q) (Some c.len.result) (get nat_eq o.places q) = c.in_ok-insert.ensures.updates.0 in
    added o _ c.args.node c.args.parent c.new.result c.self.invariant unknown above c.new.ensures refl (c.in-Ok.ensures.items ∙ ap (λ es. es ++ c.new.result ∷ []) c.reserve.ensures.items)
    (λ q. found q ∙ ap (λ n. cond (nat_eq c.args.node q) (Some n) (get nat_eq o.places q)) last)
