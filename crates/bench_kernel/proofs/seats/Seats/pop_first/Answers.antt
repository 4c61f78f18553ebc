use Rattle.bench_kernel.proofs.Common.{◌≡◌, ℕ, None, cond, nat_eq, heap_items, refl, lookup, Place}
use Rattle.bench_kernel.proofs.Places.{AreSeats-pop, least-of, taken_in-pop}
use Rattle.bench_kernel.proofs.seats.Seats.pop_first.Goals as goal

pub invariant_of-self-2 : goal.invariant_of-self-2
invariant_of-self-2 g c =
    let seats = c.self.inside in
    let place : Place = (c.in_ok-key.field-0-0, c.in_ok-key.key) in
    let found : (node : ℕ) → lookup (nat_eq node) c.remove.new.self.entries ≡ cond (nat_eq c.remove-node.result.node node) None (lookup (nat_eq node) seats.components.entries) = c.remove.ensures.updates.0 in
    AreSeats-pop seats.taken c.remove-node.new.self seats.components.entries c.remove.new.self.entries (heap_items seats.down) (heap_items c.pop.new.self) place c.remove-node.result
    c.in_ok-key.ensures.permutation c.remove-node.ensures.value c.remove-node.ensures.updates found c.self.invariant (c.in_ok-key.ensures.heap_order c.self.invariant.heap).0

pub returns-clause-some : goal.returns-clause-some
returns-clause-some g c =
    let seats = c.self.inside in
    let place : Place = (c.in_ok-key.field-0-0, c.in_ok-key.key) in
    let found : (node : ℕ) → lookup (nat_eq node) c.remove.new.self.entries ≡ cond (nat_eq c.remove-node.result.node node) None (lookup (nat_eq node) seats.components.entries) = c.remove.ensures.updates.0 in
    rw (← c.self.view_is)
    (record {
      path = place.0.0;
      node = c.remove-node.result.node;
      who = refl;
      taken = taken_in-pop seats.taken c.remove-node.new.self seats.components.entries c.remove.new.self.entries (heap_items seats.down) (heap_items c.pop.new.self) place c.remove-node.result
          c.in_ok-key.ensures.permutation c.remove-node.ensures.value c.remove-node.ensures.updates found c.self.invariant;
      least = least-of c.remove-node.new.self place (heap_items c.pop.new.self) (c.in_ok-key.ensures.below_top c.self.invariant.heap);
    })
