use Rattle.bench_kernel.proofs.Common.{ℕ, List, Option, length, ap, arith, sitter_at}
use Rattle.bench_kernel.proofs.Lists.{filter_map-few}
use Rattle.bench_kernel.proofs.Sitters.{rising}
use Rattle.bench_kernel.proofs.sequence_seats.SequenceSeats.len.Goals as goal

pub returns-clause-rising : goal.returns-clause-rising
returns-clause-rising g c =
    let seats = c.self.inside in
    rw (← c.self.view_is) (rising seats.taken 0 (length seats.keys.items) 1 seats.keys.items (omega arith) (omega arith) c.self.invariant.numbered)

pub returns-clause-small : goal.returns-clause-small
returns-clause-small g c =
    let seats = c.self.inside in
    let few = filter_map-few (sitter_at seats.taken) seats.keys.items in
    let places = ap (λ (keys : List (Option ℕ)). length keys) c.as_slice-places.ensures.value in
    let small = c.as_slice-places.type_inv.1 in
    omega (arith, c.len.ensures, c.self.invariant.full, few, places, small)
