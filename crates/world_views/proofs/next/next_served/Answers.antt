use Rattle.std.proofs.Common.{◌∙◌}
use Rattle.world_services.proofs.Participants.{known-there, served-known}
use Rattle.world_views.proofs.next.next_served.Goals as goal

pub first_served-requires : goal.first_served-requires
first_served-requires c =
    known-there c.services-services.ensures

pub returns : goal.returns
returns c =
    (c.first_served.ensures ∙ served-known c.services-services.ensures)
