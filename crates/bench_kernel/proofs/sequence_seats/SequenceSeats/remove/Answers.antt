use Rattle.bench_kernel.proofs.Common.{◌≡◌, ◌∙◌, None, Some, sym, ap, take, drop, suc, same_Some, slice_index_or, place_of, sitters_in}
use Rattle.bench_kernel.proofs.Sitters.{AreSequenceSeats-left, permutation-of, same-left, seat-of}
use Rattle.bench_kernel.proofs.sequence_seats.SequenceSeats.remove.Goals as goal

pub unreachable-requires : goal.unreachable-requires
unreachable-requires g c =
    let seats = c.self.inside in
    let seat = seat-of seats.taken seats.keys.items c.args.who.now c.self.invariant.numbered (rw (← c.self.view_is) at c.requires) in
    let none : place_of c.args.who.now ≡ None = sym c.place_of.ensures ∙ c.in_default.is in
    let bad = sym none ∙ seat.found in cc

pub unreachable-requires-in_default-leave : goal.unreachable-requires-in_default-leave
unreachable-requires-in_default-leave g c =
    let seats = c.self.inside in
    let seat = seat-of seats.taken seats.keys.items c.args.who.now c.self.invariant.numbered (rw (← c.self.view_is) at c.requires) in
    let place = same_Some seat.place c.in-Some.place (sym seat.found ∙ sym c.place_of.ensures ∙ c.in-Some.is) in
    let none : slice_index_or seats.keys.items c.in-Some.place None ≡ None = c.in_default-leave.ensures.none in
    let bad = sym none ∙ ap (λ place. slice_index_or seats.keys.items place None) (sym place) ∙ seat.at in cc

pub invariant_of-self : goal.invariant_of-self
invariant_of-self g c =
    let seats = c.self.inside in
    rw c.in-Some-leave.ensures.keys
    (AreSequenceSeats-left (c.in-Some-leave.field-0-0, c.in-Some-leave.object) seats.taken c.leave.new.taken seats.keys.items seats.first c.in-Some.place c.self.invariant.within c.self.invariant.empty c.self.invariant.full c.in-Some-leave.ensures.some)

pub returns-clause-without : goal.returns-clause-without
returns-clause-without g c =
    let seats = c.self.inside in
    let sits = rw (← c.self.view_is) at c.requires in
    let found : place_of c.args.who.now ≡ Some c.in-Some.place = sym c.place_of.ensures ∙ c.in-Some.is in
    let left = c.in-Some-leave.ensures.some in
    let same = same-left (c.in-Some-leave.field-0-0, c.in-Some-leave.object) seats.taken c.leave.new.taken seats.keys.items c.args.who.now c.in-Some.place found c.self.invariant.numbered sits left in
    rw (c.in-Some-leave.ensures.keys, ← c.self.view_is, ← same)
    (record {
      front = sitters_in seats.taken (take c.in-Some.place seats.keys.items);
      behind = sitters_in seats.taken (drop (suc c.in-Some.place) seats.keys.items);
      was = left.was;
      is = left.is;
    })

pub returns-clause-held : goal.returns-clause-held
returns-clause-held g c = permutation-of _ _ _ (returns-clause-without g c)
