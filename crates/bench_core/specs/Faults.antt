-- The texts of the errors of a core.
use Rattle.std.specs.Prelude.{ℕ, List, codes}
use Rattle.bench_core.specs.declared.faults.CoreFault.{CoreFault}
use Rattle.bench_core.specs.declared.faults.CoreFault.TheVariants.{Memory, LogFull, Failed, NoTest}

-- the text of each error
abbrev pub fault_text : CoreFault → List ℕ
fault_text Memory = codes "out of memory"
fault_text LogFull = codes "log full"
fault_text Failed = codes "failed before"
fault_text NoTest = codes "no test"
