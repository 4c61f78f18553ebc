use Rattle.bench_kernel.proofs.Sitters.{AreSequenceSeats-insert, sitters-insert}
use Rattle.bench_kernel.proofs.sequence_seats.SequenceSeats.insert.Goals as goal

pub invariant_of-self : goal.invariant_of-self
invariant_of-self g c =
    let seats = c.self.inside in
    let next = rw (← c.self.view_is) at (c.requires.next) in
    rw c.in-Ok.ensures.items
    (AreSequenceSeats-insert seats.taken c.insert_reserved-key.new.self seats.keys.items seats.first c.insert_reserved-key.result (record { home = c.args.home; id = c.args.id; object = c.args.object })
    c.insert_reserved-key.ensures.was_vacant c.insert_reserved-key.ensures.updates next c.insert_reserved-key.ensures.len c.self.invariant)

pub returns-clause-held : goal.returns-clause-held
returns-clause-held g c =
    let seats = c.self.inside in
    let next = rw (← c.self.view_is) at (c.requires.next) in
    rw (c.in-Ok.ensures.items, ← c.self.view_is)
    (sitters-insert seats.taken c.insert_reserved-key.new.self seats.keys.items seats.first c.insert_reserved-key.result (record { home = c.args.home; id = c.args.id; object = c.args.object })
    c.insert_reserved-key.ensures.was_vacant c.insert_reserved-key.ensures.updates next c.insert_reserved-key.ensures.len c.self.invariant)
