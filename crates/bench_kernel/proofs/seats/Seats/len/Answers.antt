use Rattle.bench_kernel.proofs.Common.{List, length, heap_items, ap, arith, Place}
use Rattle.bench_kernel.proofs.Places.{length-taken_in}
use Rattle.bench_kernel.proofs.seats.Seats.len.Goals as goal

pub returns-clause-len : goal.returns-clause-len
returns-clause-len g c =
    let seats = c.self.inside in
    let sit = ap (λ (places : List Place). length places) c.as_slice.ensures.value in
    rw (← c.self.view_is) (omega (arith, sit, length-taken_in seats.taken seats.components.entries (heap_items seats.down) c.self.invariant))
