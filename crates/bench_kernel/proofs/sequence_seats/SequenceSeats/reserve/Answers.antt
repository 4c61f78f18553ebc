use Rattle.bench_kernel.proofs.Common.{refl}
use Rattle.bench_kernel.proofs.Sitters.{AreSequenceSeats-room}
use Rattle.bench_kernel.proofs.sequence_seats.SequenceSeats.reserve.Goals as goal

pub invariant_of-self : goal.invariant_of-self
invariant_of-self g c =
    let seats = c.self.inside in
    AreSequenceSeats-room seats.taken c.reserve.new.self seats.keys.items seats.first (λ key. rw c.reserve.ensures.rest_kept refl) (rw c.reserve.ensures.rest_kept refl) c.self.invariant

pub invariant_of-self-2 : goal.invariant_of-self-2
invariant_of-self-2 g c =
    let seats = c.self.inside in
    rw c.reserve-2.ensures.items
    (AreSequenceSeats-room seats.taken c.reserve.new.self seats.keys.items seats.first (λ key. rw c.reserve.ensures.rest_kept refl) (rw c.reserve.ensures.rest_kept refl) c.self.invariant)
