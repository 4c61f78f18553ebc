use Rattle.uvm_tlm.proofs.graphs.Graph.new.Goals as goal

pub invariant_of-result : goal.invariant_of-result
invariant_of-result c = record { ends_found = c.requires; starts_found = c.in_ok-starts.ensures }
