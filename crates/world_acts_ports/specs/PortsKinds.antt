-- The actions through ports.
use Rattle.uvm_acts.specs.declared.acts.Act.{Act}
use Rattle.uvm_acts.specs.declared.acts.Act.TheVariants.{Put, TryPut, Take, TryTake, Peek, Write}

-- an action through a port
abbrev pub IsPortAct : Act → Type 0
IsPortAct (Put port item) = Unit {0}
IsPortAct (TryPut port item) = Unit {0}
IsPortAct (Take port) = Unit {0}
IsPortAct (TryTake port) = Unit {0}
IsPortAct (Peek port) = Unit {0}
IsPortAct (Write port item) = Unit {0}
IsPortAct act = ⊥
