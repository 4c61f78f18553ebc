use Rattle.world_sequencing.proofs.Common.{take, AreEnded}
use Rattle.world_sequencing.proofs.ends.finish_all.Given as goal

-- those so far have ended
abbrev pub invariant-loop-who : goal.invariant-loop-who
invariant-loop-who l = AreEnded (take l.who-index l.leaving) l.initial.sequences l.sequences
