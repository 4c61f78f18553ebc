use Rattle.uvm_tree.proofs.Common.{Up}
use Rattle.uvm_tree.proofs.Up.{up-first}
use Rattle.uvm_tree.proofs.trees.Tree.first_up.Goals as goal

pub returns-clause-next : goal.returns-clause-next
returns-clause-next c = up-first c.args.self.now.nodes c.next_child.ensures.nodes (c.orders_are_total.ensures Up) c.in_ok-child.child c.first_below.result c.in_ok-child.ensures.next c.first_below.ensures
