-- The law, at the place of the grant.
use Rattle.std.proofs.Common.{refl, subst}
use Rattle.uvm_object.specs.declared.entries.Entry.TheVariants.{Granted}
use Rattle.bench_history.specs.Next.{IsLegal}
use Rattle.example_law.proofs.burst_is_alone.Goals as goal

pub returns : goal.returns
returns c = λ legal later between before node id grant splits burst kept. c.lock_excludes.ensures.from_lock _ later between before node id grant.id (Granted node grant) (subst (IsLegal c.args.script.now) splits legal) (refl, refl) kept
