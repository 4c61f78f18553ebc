use Rattle.world_sequencing.proofs.Common.{◌≡◌, drop, map, first_given, locked_in}
use Rattle.world_sequencing.proofs.arbiters.first_locked.Given as goal

-- nothing is granted at those so far
abbrev pub invariant-loop-node : goal.invariant-loop-node
invariant-loop-node l = first_given (map (locked_in l.sequences.started l.arbiters) l.nodes) ≡ first_given (map (locked_in l.sequences.started l.arbiters) (drop l.node-index l.nodes))
