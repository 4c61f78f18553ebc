use Rattle.uvm_tlm.proofs.Common.{◌≡◌, ℕ, take, list_of, targets_in}
use Rattle.uvm_tlm.proofs.graphs.Graph.targets.Given as goal

-- the targets so far
abbrev pub invariant-loop-target : goal.invariant-loop-target
invariant-loop-target l = (n : ℕ) → list_of l.targets n ≡ targets_in l.self.ends l.self.connections (take l.target-index l.order) n
