use Rattle.uvm_tlm.proofs.Routes.{found, route_of}
use Rattle.uvm_tlm.proofs.laws.reaches_by_routes.Goals as goal

pub returns : goal.returns
returns c connections from to = (route_of connections from to, found connections)
