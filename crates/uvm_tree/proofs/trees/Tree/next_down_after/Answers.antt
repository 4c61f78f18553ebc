use Rattle.uvm_tree.proofs.Common.{◌∙◌, sym, ap, Down}
use Rattle.std.specs.Option.{option_copied}
use Rattle.uvm_tree.proofs.Down.{down-lost, down-to_beside, down-to_child}
use Rattle.uvm_tree.proofs.trees.Tree.next_down_after.Goals as goal

pub returns-in_err-_kept-clause-next : goal.returns-in_err-_kept-clause-next
returns-in_err-_kept-clause-next c =
    rw c.from_residual.ensures (down-lost c.args.self.now.nodes c.node.ensures.nodes (c.orders_are_total.ensures Down) c.args.node (sym c.node.ensures.node ∙ ap option_copied c.in_err-_kept.was))

pub returns-in-Some-clause-next : goal.returns-in-Some-clause-next
returns-in-Some-clause-next c =
    let kept = sym c.node.ensures.node ∙ ap option_copied c.in_ok-_kept.was in
    down-to_child c.args.self.now.nodes c.node.ensures.nodes (c.orders_are_total.ensures Down) c.args.node c.in_ok-_kept._kept.now kept c.in-Some.child c.in-Some.ensures.next

pub returns-in-None-clause-next : goal.returns-in-None-clause-next
returns-in-None-clause-next c =
    let kept = sym c.node.ensures.node ∙ ap option_copied c.in_ok-_kept.was in
    down-to_beside c.args.self.now.nodes c.node.ensures.nodes (c.orders_are_total.ensures Down) c.args.node c.in_ok-_kept._kept.now kept c.in-None.ensures.next c.next_beside.result c.next_beside.ensures
