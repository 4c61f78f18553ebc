use Rattle.uvm_tlm.proofs.Common.{◌≡◌, ℕ, take, list_of, has, is_connected}
use Rattle.uvm_tlm.proofs.graphs.starts.Given as goal

-- the starts of the connections so far, which are all made
abbrev pub invariant-loop-connection : goal.invariant-loop-connection
invariant-loop-connection l = record {
  noted : (from to : ℕ) → has (list_of l.starts to) from ≡ is_connected (take l.connection-index l.connections) from to;
  made : (from to : ℕ) → is_connected l.made.keys from to ≡ is_connected (take l.connection-index l.connections) from to;
}
