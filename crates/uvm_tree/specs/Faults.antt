-- The texts of the errors.
use Rattle.std.specs.Prelude.{ℕ, List, codes}
use Rattle.uvm_tree.specs.declared.faults.TreeFault.{TreeFault}
use Rattle.uvm_tree.specs.declared.faults.TreeFault.TheVariants.{NoParent, NameTaken, TooDeep, Full, Memory}

-- the text of each error
abbrev pub fault_text : TreeFault → List ℕ
fault_text NoParent = codes "no such parent"
fault_text NameTaken = codes "child name taken"
fault_text TooDeep = codes "too deep"
fault_text Full = codes "too many nodes"
fault_text Memory = codes "out of memory"
