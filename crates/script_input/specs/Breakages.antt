-- Why a program could not do a job.
use Rattle.std.specs.Prelude.{ℕ, List, Option, Some, None, codes}
use Rattle.bench_run.specs.declared.faults.RunFault.{RunFault}
use Rattle.bench_run.specs.declared.faults.RunFault.TheVariants as run
use Rattle.script_input.specs.declared.breakages.Breakage.{Breakage}
use Rattle.script_input.specs.declared.breakages.Breakage.TheVariants.{Memory, LogFull, Output, Unread}

-- what stopped a run; a script without a test does not run
abbrev pub breakage_of : RunFault → Option Breakage
breakage_of run.Memory = Some Memory
breakage_of run.LogFull = Some LogFull
breakage_of run.Output = Some Output
breakage_of run.NoTest = None

-- the message about it on standard error
abbrev pub message_of : Breakage → List ℕ
message_of Memory = codes "memory"
message_of LogFull = codes "log full"
message_of Output = codes "output fault"
message_of Unread = codes "cannot read the file"
