use Rattle.world_services.proofs.Common.{List, filter, not, option_to_list, Event, is_drain_of}
use Rattle.world_services.proofs.tells.move_drains.Goals as goal

pub returns-in_ok-add_event-clause-dues : goal.returns-in_ok-add_event-clause-dues
returns-in_ok-add_event-clause-dues c = λ caused is.
    let others : List Event = filter (λ event. not (is_drain_of c.args.phase (option_to_list c.args.ended) event.owner)) caused in
    let added = rw c.nothing.ensures at (c.in_ok-add_event.ensures.dues others (c.end_drain.ensures caused is)) in
    rw (c.in-Some.is, ← c.caused_at-cause.ensures) added

pub returns-in_default-clause-dues : goal.returns-in_default-clause-dues
returns-in_default-clause-dues c = λ caused is. rw c.in_default.is (c.end_drain.ensures caused is)
