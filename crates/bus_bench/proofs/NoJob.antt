-- What words that name no job come to.
use Rattle.std.proofs.Common.{◌⊎◌, ℕ, List, Option, inl, inr, refl, string_bytes}
use Rattle.clap.specs.Words.{Text, fault_of}
use Rattle.clap.specs.declared.error.kind.ErrorKind.TheVariants.{DisplayHelp, DisplayVersion}
use Rattle.bus_jobs.specs.Commands.{bus_bench_app}
use Rattle.bus_jobs.specs.Faults.{IsJobFaultOf}
use Rattle.bus_jobs.specs.declared.jobs.JobFault.{JobFault}
use Rattle.bus_jobs.specs.declared.jobs.JobFault.TheVariants.{Help, Version, Refused, BadName, Memory}
use Rattle.bus_bench.specs.Program.{DidNothing, GaveText, IsTold}

pub told : (words : List Text) (fault : JobFault) (old new : Option (List ℕ)) (status : ℕ) → IsJobFaultOf (fault_of bus_bench_app words) fault → IsTold fault old new status → DidNothing old new status ⊎ GaveText old new status
told words (Help text) old new status of is = inr (words, DisplayHelp, of, inl refl, string_bytes text, is)
told words (Version text) old new status of is = inr (words, DisplayVersion, of, inr refl, string_bytes text, is)
told words (Refused error) old new status of is = inl (inl is.0, is.1)
told words BadName old new status of is = inl (inl is.0, is.1)
told words Memory old new status of is = inl (inr is.0, is.1)
