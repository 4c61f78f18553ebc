use Rattle.uvm_tlm.proofs.Common.{◌≡◌, ℕ, nat_eq, take, find, get, driven_by, is_some_of, kind_at, targets_in}
use Rattle.uvm_tlm.proofs.graphs.Graph.drivers.Given as goal

-- the first driver of each sequencer so far
abbrev pub invariant-loop-port : goal.invariant-loop-port
invariant-loop-port l = (n : ℕ) → get nat_eq l.drivers n ≡ find (λ port. is_some_of n (driven_by (kind_at l.self.ends port) (targets_in l.self.ends l.self.connections l.order port))) (take l.port-index l.order)
