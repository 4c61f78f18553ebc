-- The messages of the errors.
use Rattle.std.specs.Prelude.{ℕ, List, codes}
use Rattle.uvm_config.specs.declared.faults.ConfigFault.{ConfigFault}
use Rattle.uvm_config.specs.declared.faults.ConfigFault.TheVariants.{Full, Memory}

-- the message of each error
abbrev pub fault_text : ConfigFault → List ℕ
fault_text Full = codes "too many settings"
fault_text Memory = codes "out of memory"
