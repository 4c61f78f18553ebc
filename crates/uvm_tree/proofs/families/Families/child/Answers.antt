use Rattle.uvm_tree.proofs.Common.{◌∷◌, ◌∙◌, sym, bytes_eq-Decides}
use Rattle.uvm_tree.proofs.Standing.{child_found, child_none, child_other}
use Rattle.uvm_tree.proofs.families.Families.child.Goals as goal

pub returns-in_err-child-clause-none : goal.returns-in_err-child-clause-none
returns-in_err-child-clause-none c =
    let s = c.args.self.now in
    let nodes = s.top.now ∷ s.nodes.now in
    rw c.from_residual.ensures (child_none nodes s.order.now c.requires.nodes c.requires.families c.args.parent c.args.name.now c.count_in_front.result c.count_in_front.ensures.parts (sym c.child_in.ensures ∙ c.in_err-child.was))

pub returns-then-eq-clause-found : goal.returns-then-eq-clause-found
returns-then-eq-clause-found c =
    let s = c.args.self.now in
    let nodes = s.top.now ∷ s.nodes.now in
    let same = (bytes_eq-Decides c.place.result.1.now c.args.name.now).0 (sym c.eq.ensures ∙ c.if-eq.true) in
    child_found nodes s.order.now c.requires.nodes c.requires.families c.args.parent c.count_in_front.result c.in_ok-child.child c.place.result.0 c.args.name.now c.place.result.1.now (sym c.child_in.ensures ∙ c.in_ok-child.was) c.place.ensures same

pub returns-else-eq-clause-none : goal.returns-else-eq-clause-none
returns-else-eq-clause-none c =
    let s = c.args.self.now in
    let nodes = s.top.now ∷ s.nodes.now in
    child_other nodes s.order.now c.requires.nodes c.requires.families c.args.parent c.args.name.now c.count_in_front.result c.count_in_front.ensures.parts c.in_ok-child.child c.place.result.0 c.place.result.1.now (sym c.child_in.ensures ∙ c.in_ok-child.was) c.place.ensures
    (λ same. let equal = c.eq.ensures ∙ (bytes_eq-Decides c.place.result.1.now c.args.name.now).1 same in let other = c.if-eq.false in cc)
