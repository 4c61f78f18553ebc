use Rattle.world_wiring.proofs.Common.{◌≡◌, drop, map, first_given, unsound_port}
use Rattle.world_wiring.proofs.connections.first_unsound.Given as goal

-- none of those so far is
abbrev pub invariant-loop-node : goal.invariant-loop-node
invariant-loop-node l = first_given (map (unsound_port l.wiring) l.nodes) ≡ first_given (map (unsound_port l.wiring) (drop l.node-index l.nodes))
