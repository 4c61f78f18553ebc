use Rattle.std.proofs.Common.{◌∙◌, sym}
use Rattle.world_services.proofs.Participants.{requests-known, waiters-known}
use Rattle.world_views.proofs.status.waiting.Goals as goal

pub returns-in-None : goal.returns-in-None
returns-in-None c =
    let m = c.services-services.ensures in
    (c.requests_at.ensures ∙ requests-known m c.args.node ∙ waiters-known m c.args.node (sym c.waiting_at.ensures ∙ c.in-None.is))
