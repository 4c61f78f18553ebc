use Rattle.uvm_tlm.proofs.Common.{◌≡◌, [], nat_eq, take, keys, insert_all}
use Rattle.uvm_tlm.proofs.graphs.places_of.Given as goal

-- the nodes so far have their places
abbrev pub invariant-loop-node : goal.invariant-loop-node
invariant-loop-node l = keys l.places ≡ insert_all nat_eq [] (take l.node-index l.nodes)
