use Rattle.uvm_tree.proofs.Common.{◌≢◌, ◌∙◌, sym, subst, arith, refl, Option, List, ℕ, Some, None, eqb-true, eqb-false, Down, Up, IsNextChild, node_at}
use Rattle.uvm_tree.proofs.Down.{no_path}
use Rattle.uvm_tree.proofs.Grown.{within}
use Rattle.uvm_tree.proofs.Kin.{after_child, has_parent, no_parent}
use Rattle.uvm_tree.proofs.Up.{up-end, up-none, up-parent, up-sibling}
use Rattle.uvm_tree.proofs.trees.Tree.next_up_after.Goals as goal

pub returns-in_err-parent-clause-next : goal.returns-in_err-parent-clause-next
returns-in_err-parent-clause-next c =
    let nodes = c.args.self.now.nodes in
    let none = no_parent nodes c.args.node (sym c.parent.ensures.parent ∙ c.in_err-parent.was) in
    rw c.from_residual.ensures (up-none nodes c.parent.ensures.nodes (c.orders_are_total.ensures Up) c.args.node (no_path nodes c.parent.ensures.nodes (c.orders_are_total.ensures Down) c.args.node none (node_at nodes c.args.node) refl))

pub first_below-requires : goal.first_below-requires
first_below-requires c =
    let nodes = c.args.self.now.nodes in
    let child = after_child nodes c.in_ok-parent.parent c.in-Some.next _ c.in-Some.ensures.next.child in
    within nodes c.in-Some.next (c.in_ok-parent.parent, child.0) child.1

pub returns-in-Some-clause-next : goal.returns-in-Some-clause-next
returns-in-Some-clause-next c =
    let nodes = c.args.self.now.nodes in
    let parent = c.in_ok-parent.parent in
    let own = has_parent nodes c.args.node parent (sym c.parent.ensures.parent ∙ c.in_ok-parent.was) in
    let next = subst (λ (after : Option (List ℕ)). IsNextChild nodes parent after (Some c.in-Some.next)) (c.name.ensures ∙ own.2) c.in-Some.ensures.next in
    up-sibling nodes c.parent.ensures.nodes (c.orders_are_total.ensures Up) c.args.node parent own.0 own.1 c.in-Some.next c.first_below.result next c.first_below.ensures

pub returns-in-None-clause-next : goal.returns-in-None-clause-next
returns-in-None-clause-next c =
    let nodes = c.args.self.now.nodes in
    let parent = c.in_ok-parent.parent in
    let own = has_parent nodes c.args.node parent (sym c.parent.ensures.parent ∙ c.in_ok-parent.was) in
    let next = subst (λ (after : Option (List ℕ)). IsNextChild nodes parent after None) (c.name.ensures ∙ own.2) c.in-None.ensures.next in
    up-end nodes c.parent.ensures.nodes (c.orders_are_total.ensures Up) c.args.node parent own.0 own.1 next (eqb-true parent 0 (sym c.eq.ensures ∙ c.if-eq.true))

pub returns-in-None-2-clause-next : goal.returns-in-None-2-clause-next
returns-in-None-2-clause-next c =
    let nodes = c.args.self.now.nodes in
    let parent = c.in_ok-parent.parent in
    let own = has_parent nodes c.args.node parent (sym c.parent.ensures.parent ∙ c.in_ok-parent.was) in
    let next = subst (λ (after : Option (List ℕ)). IsNextChild nodes parent after None) (c.name.ensures ∙ own.2) c.in-None-2.ensures.next in
    let other : parent ≢ 0 = eqb-false parent 0 (sym c.eq.ensures ∙ c.if-eq.false) in
    up-parent nodes c.parent.ensures.nodes (c.orders_are_total.ensures Up) c.args.node parent own.0 own.1 next (omega arith)
