use Rattle.bench_kernel.proofs.Common.{◌≡◌, ◌∙◌, None, Some, nat_eq, heap_items, sym, ap, refl, IsPermutation-map, IsPermutation-sym, IsPermutation-trans, same_Some, lookup, get, node_of, Node, Taken, held_in, taken_in}
use Rattle.bench_kernel.proofs.Places.{AreSeats-write, place-of, taken_in-write}
use Rattle.bench_kernel.proofs.seats.Seats.hear.Goals as goal

pub unreachable-requires : goal.unreachable-requires
unreachable-requires g c =
    let seats = c.self.inside in
    let place = place-of seats.taken seats.components.entries (heap_items seats.down) c.args.who.now c.self.invariant (rw (← c.self.view_is) at c.requires) in
    let none : lookup (nat_eq (node_of c.args.who.now)) seats.components.entries ≡ None = rw (← c.node.ensures) (sym c.get.ensures.value ∙ sym c.copied.ensures ∙ c.in_default.is) in
    let bad = sym none ∙ place.found in cc

pub unreachable-requires-in-None : goal.unreachable-requires-in-None
unreachable-requires-in-None g c =
    let seats = c.self.inside in
    let place = place-of seats.taken seats.components.entries (heap_items seats.down) c.args.who.now c.self.invariant (rw (← c.self.view_is) at c.requires) in
    let found : lookup (nat_eq (node_of c.args.who.now)) seats.components.entries ≡ Some c.in-Some.key = rw (← c.node.ensures) (sym c.get.ensures.value ∙ sym c.copied.ensures ∙ c.in-Some.is) in
    let key : place.place.1 ≡ c.in-Some.key = same_Some place.place.1 c.in-Some.key (sym place.found ∙ found) in
    let none : get seats.taken c.in-Some.key ≡ None = sym c.get_mut.follows ∙ (rw c.in-None.is refl) in
    let bad = sym none ∙ ap (get seats.taken) (sym key) ∙ place.there in cc

pub invariant_of-self : goal.invariant_of-self
invariant_of-self g c =
    let seats = c.self.inside in
    let there : get seats.taken c.in-Some.key ≡ Some c.in-Some-get_mut.seat.now = sym c.get_mut.follows ∙ (rw c.in-Some-get_mut.is refl) in
    AreSeats-write seats.taken seats.components.entries (heap_items seats.down) c.in-Some.key c.in-Some-get_mut.seat.now c.hear.new.self there c.self.invariant

pub returns-clause-asked : goal.returns-clause-asked
returns-clause-asked g c =
    let seats = c.self.inside in
    let place = place-of seats.taken seats.components.entries (heap_items seats.down) c.args.who.now c.self.invariant (rw (← c.self.view_is) at c.requires) in
    let found : lookup (nat_eq (node_of c.args.who.now)) seats.components.entries ≡ Some c.in-Some.key = rw (← c.node.ensures) (sym c.get.ensures.value ∙ sym c.copied.ensures ∙ c.in-Some.is) in
    let key : place.place.1 ≡ c.in-Some.key = same_Some place.place.1 c.in-Some.key (sym place.found ∙ found) in
    let there : get seats.taken c.in-Some.key ≡ Some c.in-Some-get_mut.seat.now = sym c.get_mut.follows ∙ (rw c.in-Some-get_mut.is refl) in
    let same : place.seat ≡ c.in-Some-get_mut.seat.now = same_Some place.seat c.in-Some-get_mut.seat.now (sym place.there ∙ ap (get seats.taken) key ∙ there) in
    let who : Node c.in-Some-get_mut.seat.now.node ≡ c.args.who.now = ap (λ s. Node s.node) (sym same) ∙ place.same_who in
    let written = taken_in-write seats.taken seats.components.entries (heap_items seats.down) c.in-Some.key c.in-Some-get_mut.seat.now c.hear.new.self there c.self.invariant place.place place.others key place.is in
    rw (← c.self.view_is, ← who)
    (record {
      before = c.in-Some-get_mut.seat.now.object;
      after = c.hear.new.self;
      others = held_in (taken_in seats.taken place.others);
      was = IsPermutation-map (λ (taken : Taken g.row.O.Denot). (Node taken.node, taken.object)) _ _ written.was;
      is = IsPermutation-map (λ (taken : Taken g.row.O.Denot). (Node taken.node, taken.object)) _ _ written.is;
      same_name = c.hear.ensures.same_name;
      same_says = c.hear.ensures.same_says;
      said = c.hear.ensures.said;
    })

pub returns-clause-paths : goal.returns-clause-paths
returns-clause-paths g c =
    let seats = c.self.inside in
    let place = place-of seats.taken seats.components.entries (heap_items seats.down) c.args.who.now c.self.invariant (rw (← c.self.view_is) at c.requires) in
    let found : lookup (nat_eq (node_of c.args.who.now)) seats.components.entries ≡ Some c.in-Some.key = rw (← c.node.ensures) (sym c.get.ensures.value ∙ sym c.copied.ensures ∙ c.in-Some.is) in
    let key : place.place.1 ≡ c.in-Some.key = same_Some place.place.1 c.in-Some.key (sym place.found ∙ found) in
    let there : get seats.taken c.in-Some.key ≡ Some c.in-Some-get_mut.seat.now = sym c.get_mut.follows ∙ (rw c.in-Some-get_mut.is refl) in
    let written = taken_in-write seats.taken seats.components.entries (heap_items seats.down) c.in-Some.key c.in-Some-get_mut.seat.now c.hear.new.self there c.self.invariant place.place place.others key place.is in
    rw (← c.self.view_is)
    (IsPermutation-trans _ _ _ (IsPermutation-sym _ _ (IsPermutation-map (λ (taken : Taken g.row.O.Denot). (taken.path, taken.node)) _ _ written.was))
    (IsPermutation-map (λ (taken : Taken g.row.O.Denot). (taken.path, taken.node)) _ _ written.is))
