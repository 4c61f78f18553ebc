use Rattle.uvm_tree.proofs.Ordered.{nodes_are_ordered as proved}
use Rattle.uvm_tree.proofs.laws.nodes_are_ordered.Goals as goal

pub returns : goal.returns
returns c = proved c.orders_are_total.ensures
