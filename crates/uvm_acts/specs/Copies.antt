-- Actions that own memory.
use Rattle.std.specs.Prelude.{Bool, true, false}
use Rattle.uvm_acts.specs.declared.acts.Act.{Act}
use Rattle.uvm_acts.specs.declared.acts.Act.TheVariants.{Set, OverrideInst, Connect, Start, Report}

-- whether an action owns memory, so that a copy of it allocates
abbrev pub holds_memory : Act → Bool
holds_memory (Set glob field value) = true
holds_memory (OverrideInst original new glob) = true
holds_memory (Connect from to) = true
holds_memory (Start type_name name on priority) = true
holds_memory (Report report) = true
holds_memory act = false
