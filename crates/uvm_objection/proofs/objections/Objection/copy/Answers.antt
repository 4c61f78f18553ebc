use Rattle.uvm_objection.proofs.Common.{◌∙◌, ◌∷◌, List, nat_eq, refl, ap, map, lookup, entries_from_clone, Entry, ObjectionValue, node_of}
use Rattle.uvm_objection.proofs.Adding.{roomier}
use Rattle.uvm_objection.proofs.objections.Objection.copy.Goals as goal

pub invariant_of-result : goal.invariant_of-result
invariant_of-result c =
    let same = entries_from_clone _ _ (λ x y one. one) (λ v w one. one) _ _ c.in_ok-clone.ensures.cases in
    roomier c.self.inside _ c.self.invariant refl (c.in_ok-from_slice.ensures.items ∙ c.deref.ensures.value) (λ node. ap (lookup (nat_eq node)) same)

pub returns : goal.returns
returns c =
    let same = c.in_ok-from_slice.ensures.items ∙ c.deref.ensures.value in
    ap (λ (entries : List Entry). node_of c.self.inside.top ∷ map node_of entries) same ∙ ap (λ (v : ObjectionValue). v.nodes) c.self.view_is
