use Rattle.uvm_objection.proofs.Growing.{nodes_grow}
use Rattle.uvm_objection.proofs.laws.nodes_grow.Goals as goal

pub returns : goal.returns
returns c = nodes_grow
