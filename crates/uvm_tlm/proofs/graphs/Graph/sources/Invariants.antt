use Rattle.uvm_tlm.proofs.Common.{◌-◌, length}
use Rattle.uvm_tlm.proofs.Sources.{IsSearch}
use Rattle.uvm_tlm.proofs.graphs.Graph.sources.Given as goal

abbrev pub invariant-loop-next : goal.invariant-loop-next
invariant-loop-next l = IsSearch l.self.connections l.fn.target l.found.keys l.next

abbrev pub decreases-loop-next : goal.decreases-loop-next
decreases-loop-next l = length l.self.connections - l.next
