use Rattle.bench_kernel.proofs.Common.{◌≡◌, ℕ, Some, cond, nat_eq, heap_items, lookup}
use Rattle.bench_kernel.proofs.Places.{AreSeats-insert, taken_in-insert}
use Rattle.bench_kernel.proofs.seats.Seats.insert.Goals as goal

pub invariant_of-self : goal.invariant_of-self
invariant_of-self g c =
    let seats = c.self.inside in
    let fresh = rw (← c.self.view_is) at (c.requires.apart) in
    let found : (node : ℕ) → lookup (nat_eq node) c.insert.new.self.entries ≡ cond (nat_eq c.args.node node) (Some c.insert_reserved-key.result) (lookup (nat_eq node) seats.components.entries) = c.in-Ok.ensures.updates.0 in
    AreSeats-insert seats.taken c.insert_reserved-key.new.self seats.components.entries c.insert.new.self.entries (heap_items seats.down) (heap_items c.push.new.self) c.args.path c.args.node c.args.object c.insert_reserved-key.result
    c.insert_reserved-key.ensures.was_vacant c.insert_reserved-key.ensures.updates found c.in-Ok-push.ensures.permutation fresh c.self.invariant (c.in-Ok-push.ensures.heap_order c.self.invariant.heap)

pub returns : goal.returns
returns g c =
    let seats = c.self.inside in
    let fresh = rw (← c.self.view_is) at (c.requires.apart) in
    let found : (node : ℕ) → lookup (nat_eq node) c.insert.new.self.entries ≡ cond (nat_eq c.args.node node) (Some c.insert_reserved-key.result) (lookup (nat_eq node) seats.components.entries) = c.in-Ok.ensures.updates.0 in
    rw (← c.self.view_is)
    (taken_in-insert seats.taken c.insert_reserved-key.new.self seats.components.entries c.insert.new.self.entries (heap_items seats.down) (heap_items c.push.new.self) c.args.path c.args.node c.args.object c.insert_reserved-key.result
    c.insert_reserved-key.ensures.was_vacant c.insert_reserved-key.ensures.updates found c.in-Ok-push.ensures.permutation fresh c.self.invariant)
