use Rattle.uvm_tlm.proofs.Common.{◌≡◌, ◌++◌, ◌∷◌, [], ℕ, take, if◌then◌else◌, list_of, has}
use Rattle.uvm_tlm.proofs.graphs.push_to_all.Given as goal

-- the element stands behind the others at the nodes so far
abbrev pub invariant-loop-node : goal.invariant-loop-node
invariant-loop-node l = (n : ℕ) → list_of l.lists n ≡ list_of l.fn.lists n ++ (if has (take l.node-index l.nodes.keys) n then l.element ∷ [] else [])
