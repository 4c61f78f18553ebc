use Rattle.uvm_phase.proofs.Ordered.{is_order_of}
use Rattle.uvm_phase.proofs.laws.in_order_is_in_order.Goals as goal

pub returns : goal.returns
returns g c = λ dues. is_order_of dues
