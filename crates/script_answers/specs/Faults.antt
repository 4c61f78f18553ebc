-- The texts of line faults.
use Rattle.std.specs.Prelude.{ℕ, List, codes}
use Rattle.script_answers.specs.declared.faults.LineFault.{LineFault}
use Rattle.script_answers.specs.declared.faults.LineFault.TheVariants.{NoCall, NoAct, Memory}

-- the text of a line fault
abbrev pub fault_text : LineFault → List ℕ
fault_text NoCall = codes "not a call"
fault_text NoAct = codes "not an action"
fault_text Memory = codes "memory"
