use Rattle.std.proofs.Common.{◌≡◌, ℕ, List, Option, Some, Result, Ok, Err, IfErr, IfOk, inl, inr, map}
use Rattle.clap.specs.Words.{Text, fault_of}
use Rattle.bus_jobs.specs.Commands.{bus_bench_app, named_job, words_of}
use Rattle.bus_jobs.specs.Faults.{IsJobFaultOf}
use Rattle.bus_jobs.specs.declared.jobs.Job.{Job}
use Rattle.bus_jobs.specs.declared.jobs.JobFault.{JobFault}
use Rattle.bus_bench.specs.Program.{CameTo, IsServed, IsTold}
use Rattle.bus_bench.proofs.program.serve.Goals as goal

-- what the words asked for was done
served : (words : List Text) (asked : Result Job JobFault) (old new : Option (List ℕ)) (status : ℕ) → IfOk asked (λ job. named_job words ≡ Some (words_of job)) → IfErr asked (IsJobFaultOf (fault_of bus_bench_app words))
    → IfOk asked (λ job. CameTo (words_of job) old new status) → IfErr asked (λ fault. IsTold fault old new status) → IsServed words old new status
served words (Ok job) old new status named of came is = inl (words_of job, named, came)
served words (Err fault) old new status named of came is = inr (fault, of, is)

pub returns : goal.returns
returns g c = served (map g.S.AsStr.text c.args.words.now) c.job.result _ _ c.obey.result c.job.ensures.named c.job.ensures.refused c.obey.ensures.job c.obey.ensures.fault
