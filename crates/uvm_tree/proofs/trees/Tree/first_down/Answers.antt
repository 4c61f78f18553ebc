use Rattle.uvm_tree.proofs.Common.{Down}
use Rattle.uvm_tree.proofs.Down.{down-first}
use Rattle.uvm_tree.proofs.trees.Tree.first_down.Goals as goal

pub returns-clause-next : goal.returns-clause-next
returns-clause-next c = down-first c.args.self.now.nodes c.next_child.ensures.nodes (c.orders_are_total.ensures Down) c.next_child.result c.next_child.ensures.next
