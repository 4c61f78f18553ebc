use Rattle.world_acts_sequencers.proofs.Stepped.{step-known}
use Rattle.world_views.proofs.services.sequences.Goals as goal

pub returns-clause-steps : goal.returns-clause-steps
returns-clause-steps c = λ id.
    (step-known c.services.ensures id)
