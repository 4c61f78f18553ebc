use Rattle.uvm_tlm.proofs.Common.{◌≡◌, nat_eq, take, insert_all}
use Rattle.uvm_tlm.proofs.graphs.insert_all.Given as goal

-- the nodes so far are inserted
abbrev pub invariant-loop-node : goal.invariant-loop-node
invariant-loop-node l = l.set.keys ≡ insert_all nat_eq l.fn.set.keys (take l.node-index l.nodes)
