use Rattle.bench_kernel.proofs.Common.{heap_items, refl}
use Rattle.bench_kernel.proofs.Places.{AreSeats-room}
use Rattle.bench_kernel.proofs.seats.Seats.reserve.Goals as goal

pub invariant_of-self : goal.invariant_of-self
invariant_of-self g c =
    let seats = c.self.inside in
    AreSeats-room seats.taken c.reserve.new.self seats.components.entries seats.components.entries (heap_items seats.down) (λ key. rw c.reserve.ensures.rest_kept refl) (λ node. refl) c.self.invariant

pub invariant_of-self-in_err-reserve-2 : goal.invariant_of-self-in_err-reserve-2
invariant_of-self-in_err-reserve-2 g c =
    let seats = c.self.inside in
    AreSeats-room seats.taken c.reserve.new.self seats.components.entries c.reserve-2.new.self.entries (heap_items seats.down) (λ key. rw c.reserve.ensures.rest_kept refl) c.reserve-2.ensures.entries.2 c.self.invariant

pub invariant_of-self-2 : goal.invariant_of-self-2
invariant_of-self-2 g c =
    let seats = c.self.inside in
    rw c.reserve-3.ensures.items
    (AreSeats-room seats.taken c.reserve.new.self seats.components.entries c.reserve-2.new.self.entries (heap_items seats.down) (λ key. rw c.reserve.ensures.rest_kept refl) c.reserve-2.ensures.entries.2 c.self.invariant)
