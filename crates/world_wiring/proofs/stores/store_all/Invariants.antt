use Rattle.world_wiring.proofs.Common.{take, StoresAll}
use Rattle.world_wiring.proofs.stores.store_all.Given as goal

-- those so far have it
abbrev pub invariant-loop-target : goal.invariant-loop-target
invariant-loop-target l = StoresAll l.item (take l.target-index l.targets) l.initial.fifo_states l.fifo_states
