-- The texts of the errors of a drop.
use Rattle.std.specs.Prelude.{ℕ, List, codes}
use Rattle.world_state.specs.declared.faults.DropFault.{DropFault}
use Rattle.world_state.specs.declared.faults.DropFault.TheVariants.{BelowZero, Memory}

-- the text of each error
abbrev pub fault_text : DropFault → List ℕ
fault_text BelowZero = codes "objection dropped below zero"
fault_text Memory = codes "out of memory"
