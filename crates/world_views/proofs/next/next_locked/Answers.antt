use Rattle.std.proofs.Common.{◌∙◌}
use Rattle.world_services.proofs.Participants.{known-there, locked-known}
use Rattle.world_views.proofs.next.next_locked.Goals as goal

pub first_locked-requires : goal.first_locked-requires
first_locked-requires c =
    known-there c.services-services.ensures

pub returns : goal.returns
returns c =
    (c.first_locked.ensures ∙ locked-known c.services-services.ensures)
