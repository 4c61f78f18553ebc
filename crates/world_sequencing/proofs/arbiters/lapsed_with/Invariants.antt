use Rattle.world_sequencing.proofs.Common.{◌≡◌, nat_eq, take, get, flat_map, lapsed_in}
use Rattle.world_sequencing.proofs.arbiters.lapsed_with.Given as goal

-- what those so far are told
abbrev pub invariant-loop-node : goal.invariant-loop-node
invariant-loop-node l = l.calls.items ≡ flat_map (λ node. lapsed_in l.phase l.sequences.steps (get nat_eq l.arbiters node)) (take l.node-index l.nodes)
