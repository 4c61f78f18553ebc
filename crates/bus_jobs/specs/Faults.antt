-- The reasons why the arguments of the command line name no job.
use Rattle.std.specs.Prelude.{◌≡◌, ◌≢◌, []}
use Rattle.clap.specs.Words.{IsAmong, Kinds, kind_of}
use Rattle.clap.specs.declared.error.Error.{Error}
use Rattle.clap.specs.declared.error.kind.ErrorKind.{ErrorKind}
use Rattle.clap.specs.declared.error.kind.ErrorKind.TheVariants.{DisplayHelp, DisplayVersion, OutOfMemory}
use Rattle.bus_jobs.specs.declared.jobs.JobFault.{JobFault}
use Rattle.bus_jobs.specs.declared.jobs.JobFault.TheVariants.{Help, Version, Refused, BadName, Memory}

-- an error of this kind asks for neither help nor the version
abbrev pub IsRefusal : ErrorKind → Type 0
IsRefusal kind = (kind ≢ DisplayHelp) × (kind ≢ DisplayVersion)

-- The fault for an error of clap. Help, the version and `Memory` are faults of their own; any other error is `Refused`.
abbrev pub IsFaultBy : Error → JobFault → Type 0
IsFaultBy error (Help text) = kind_of error ≡ DisplayHelp
IsFaultBy error (Version text) = kind_of error ≡ DisplayVersion
IsFaultBy error (Refused given) = (given ≡ error) × IsRefusal (kind_of error) × (kind_of error ≢ OutOfMemory)
IsFaultBy error BadName = ⊥
IsFaultBy error Memory = kind_of error ≡ OutOfMemory

-- The fault of arguments for which clap's specification gives these kinds of error. `Help`, `Version` and `Refused` have one of these
-- kinds. `BadName` comes only if there are none, and `Memory` always may.
abbrev pub IsJobFaultOf : Kinds → JobFault → Type 0
IsJobFaultOf kinds (Help text) = IsAmong DisplayHelp kinds
IsJobFaultOf kinds (Version text) = IsAmong DisplayVersion kinds
IsJobFaultOf kinds (Refused error) = IsAmong (kind_of error) kinds × IsRefusal (kind_of error)
IsJobFaultOf kinds BadName = kinds ≡ []
IsJobFaultOf kinds Memory = Unit {0}

-- the fault is help, or `Memory` if memory ran out
abbrev pub IsHelp : JobFault → Type 0
IsHelp (Help text) = Unit {0}
IsHelp Memory = Unit {0}
IsHelp _ = ⊥

-- the fault is the version, or `Memory` if memory ran out
abbrev pub IsVersion : JobFault → Type 0
IsVersion (Version text) = Unit {0}
IsVersion Memory = Unit {0}
IsVersion _ = ⊥
