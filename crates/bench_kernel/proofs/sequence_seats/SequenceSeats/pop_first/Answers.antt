use Rattle.bench_kernel.proofs.Sitters.{AreSequenceSeats-pop, none-left, some-left}
use Rattle.bench_kernel.proofs.sequence_seats.SequenceSeats.pop_first.Goals as goal

pub invariant_of-self : goal.invariant_of-self
invariant_of-self g c =
    let seats = c.self.inside in
    let found = rw c.deref.ensures.value at c.first_key-self-inside.ensures in
    AreSequenceSeats-pop c.leave.result seats.taken c.leave.new.taken seats.keys.items c.leave.new.keys.items seats.first c.first_key-self-inside.result c.leave.ensures.keys found.empty found.within c.leave.ensures.some c.leave.ensures.none c.leave.ensures.unchanged c.self.invariant

pub returns-clause-some : goal.returns-clause-some
returns-clause-some g c =
    let seats = c.self.inside in
    let found = rw c.deref.ensures.value at c.first_key-self-inside.ensures in
    rw (← c.self.view_is) (some-left c.leave.result seats.taken c.leave.new.taken seats.keys.items c.leave.new.keys.items c.first_key-self-inside.result c.leave.ensures.keys found.empty c.leave.ensures.some)

pub returns-clause-none : goal.returns-clause-none
returns-clause-none g c =
    let seats = c.self.inside in
    let found = rw c.deref.ensures.value at c.first_key-self-inside.ensures in
    rw (← c.self.view_is) (none-left c.leave.result seats.taken seats.keys.items c.first_key-self-inside.result found.empty found.key found.within c.leave.ensures.none)
