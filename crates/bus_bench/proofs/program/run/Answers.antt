use Rattle.std.proofs.Common.{◌⊎◌, ℕ, List, Option, inl, inr, map}
use Rattle.std.specs.String.{string_bytes}
use Rattle.clap.specs.Words.{Text}
use Rattle.bus_bench.specs.Program.{DidJob, DidNothing, GaveText, IsServed}
use Rattle.bus_bench.proofs.NoJob.{told}
use Rattle.bus_bench.proofs.program.run.Goals as goal

-- some words were served
done : (words : List Text) (old new : Option (List ℕ)) (status : ℕ) → IsServed words old new status → DidNothing old new status ⊎ (GaveText old new status ⊎ DidJob old new status)
done words old new status (inl job) = inr (inr (words, job.0, job.1, job.2))
done words old new status (inr fault) = elim (told words fault.0 old new status fault.1 fault.2) [ inl nothing ↦ inl nothing | inr gave ↦ inr (inl gave) ]

pub returns-in-Ok : goal.returns-in-Ok
returns-in-Ok g c = done (map string_bytes c.as_slice.result.now) _ _ c.serve.result c.serve.ensures
