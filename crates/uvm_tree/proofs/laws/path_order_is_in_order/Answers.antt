use Rattle.uvm_tree.proofs.Sorted.{path_order_is_in_order}
use Rattle.uvm_tree.proofs.laws.path_order_is_in_order.Goals as goal

pub returns : goal.returns
returns c = path_order_is_in_order c.orders_are_total.ensures
