use Rattle.uvm_tree.proofs.Common.{◌∙◌, sym, subst, arith, Option, List, ℕ, Some, None, Down, IsNextChild}
use Rattle.uvm_tree.proofs.Down.{beside-none, beside-some, beside-top}
use Rattle.uvm_tree.proofs.Kin.{has_parent, no_parent}
use Rattle.uvm_tree.proofs.trees.Tree.+next_beside.Goals as goal

pub next_beside-requires : goal.next_beside-requires
next_beside-requires t c =
    let own = has_parent c.args.self.now.nodes c.args.node c.in_ok-parent.parent (sym c.parent.ensures.parent ∙ c.in_ok-parent.was) in
    let low = c.parent.ensures.nodes.parents c.args.node (c.in_ok-parent.parent, own.0) own.1 in
    (omega arith, tt)

pub returns-in_err-parent : goal.returns-in_err-parent
returns-in_err-parent t c =
    rw c.from_residual.ensures (beside-top c.args.self.now.nodes c.parent.ensures.nodes (c.orders_are_total.ensures Down) c.args.node (no_parent c.args.self.now.nodes c.args.node (sym c.parent.ensures.parent ∙ c.in_err-parent.was)))

pub returns-in-Some : goal.returns-in-Some
returns-in-Some t c =
    let nodes = c.args.self.now.nodes in
    let parent = c.in_ok-parent.parent in
    let own = has_parent nodes c.args.node parent (sym c.parent.ensures.parent ∙ c.in_ok-parent.was) in
    let next = subst (λ (after : Option (List ℕ)). IsNextChild nodes parent after (Some c.in-Some.next)) (c.name.ensures ∙ own.2) c.in-Some.ensures.next in
    beside-some nodes c.parent.ensures.nodes (c.orders_are_total.ensures Down) c.args.node parent own.0 own.1 c.in-Some.next next

pub returns-in-None : goal.returns-in-None
returns-in-None t c =
    let nodes = c.args.self.now.nodes in
    let parent = c.in_ok-parent.parent in
    let own = has_parent nodes c.args.node parent (sym c.parent.ensures.parent ∙ c.in_ok-parent.was) in
    let next = subst (λ (after : Option (List ℕ)). IsNextChild nodes parent after None) (c.name.ensures ∙ own.2) c.in-None.ensures.next in
    beside-none nodes c.parent.ensures.nodes (c.orders_are_total.ensures Down) c.args.node parent own.0 own.1 next c.next_beside.result c.next_beside.ensures
