-- The texts of the errors of a run.
use Rattle.std.specs.Prelude.{ℕ, List, codes}
use Rattle.bench_run.specs.declared.faults.RunFault.{RunFault}
use Rattle.bench_run.specs.declared.faults.RunFault.TheVariants.{Memory, LogFull, Output, NoTest}

-- the text of each error
abbrev pub fault_text : RunFault → List ℕ
fault_text Memory = codes "out of memory"
fault_text LogFull = codes "log full"
fault_text Output = codes "output fault"
fault_text NoTest = codes "no test"
