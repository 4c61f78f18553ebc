-- The texts of the errors, and whether an error rejects a call.
use Rattle.std.specs.Prelude.{ℕ, List, Option, Some, None, codes}
use Rattle.uvm_tlm.specs.declared.faults.WireFault.{WireFault}
use Rattle.uvm_tlm.specs.declared.faults.WireFault.TheVariants.{KindDiffers, TooFew, TooMany, Unknown, Late, Memory}

-- the text of each error
abbrev pub fault_text : WireFault → List ℕ
fault_text KindDiffers = codes "kinds differ"
fault_text TooFew = codes "too few connections"
fault_text TooMany = codes "too many connections"
fault_text Unknown = codes "unknown node"
fault_text Late = codes "connected too late"
fault_text Memory = codes "out of memory"

-- the error that rejects a call; none for `Memory`, which says nothing about the call
abbrev pub refusal : WireFault → Option WireFault
refusal KindDiffers = Some KindDiffers
refusal TooFew = Some TooFew
refusal TooMany = Some TooMany
refusal Unknown = Some Unknown
refusal Late = Some Late
refusal Memory = None
