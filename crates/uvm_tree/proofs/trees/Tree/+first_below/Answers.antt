use Rattle.uvm_tree.proofs.Common.{None, arith, Up}
use Rattle.uvm_tree.proofs.Grown.{within}
use Rattle.uvm_tree.proofs.Kin.{after_child}
use Rattle.uvm_tree.proofs.Up.{first-alone, first-child}
use Rattle.uvm_tree.proofs.trees.Tree.+first_below.Goals as goal

pub first_below-requires : goal.first_below-requires
first_below-requires t c =
    let nodes = c.args.self.now.nodes in
    let own = after_child nodes c.args.node c.in-Some.child None c.in-Some.ensures.next.child in
    let low = c.next_child.ensures.nodes.parents c.in-Some.child (c.args.node, own.0) own.1 in
    let inside = within nodes c.in-Some.child (c.args.node, own.0) own.1 in
    (omega arith, inside)

pub returns-in-Some : goal.returns-in-Some
returns-in-Some t c = first-child c.args.self.now.nodes c.next_child.ensures.nodes (c.orders_are_total.ensures Up) c.args.node c.in-Some.child c.first_below.result c.requires c.in-Some.ensures.next c.first_below.ensures

pub returns-in-None : goal.returns-in-None
returns-in-None t c = first-alone c.args.self.now.nodes c.next_child.ensures.nodes (c.orders_are_total.ensures Up) c.args.node c.requires c.in-None.ensures.next
