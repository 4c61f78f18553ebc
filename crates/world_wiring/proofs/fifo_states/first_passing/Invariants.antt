use Rattle.world_wiring.proofs.Common.{◌≡◌, drop, map, first_given, passing_in}
use Rattle.world_wiring.proofs.fifo_states.first_passing.Given as goal

-- nothing passes at those so far
abbrev pub invariant-loop-fifo : goal.invariant-loop-fifo
invariant-loop-fifo l = first_given (map (passing_in l.fifo_states) l.fifos) ≡ first_given (map (passing_in l.fifo_states) (drop l.fifo-index l.fifos))
