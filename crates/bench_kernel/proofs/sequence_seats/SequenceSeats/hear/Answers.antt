use Rattle.bench_kernel.proofs.Common.{◌≡◌, ◌∙◌, ◌++◌, None, Some, take, drop, suc, sym, ap, refl, IsPermutation-middle, IsPermutation-sym, same_Some, get, Sequence, key_of, sitters_in}
use Rattle.bench_kernel.proofs.Sitters.{AreSequenceSeats-write, key-of-seat, keys-write, seat-of, sitters-write}
use Rattle.bench_kernel.proofs.sequence_seats.SequenceSeats.hear.Goals as goal

pub unreachable-requires : goal.unreachable-requires
unreachable-requires g c =
    let seats = c.self.inside in
    let seat = seat-of seats.taken seats.keys.items c.args.who.now c.self.invariant.numbered (rw (← c.self.view_is) at c.requires) in
    let none : key_of seats.keys.items c.args.who.now ≡ None = rw (← c.deref.ensures.value) (sym c.key_of.ensures ∙ c.in_default.is) in
    let bad : None ≡ Some seat.key = sym none ∙ key-of-seat seats.taken seats.keys.items c.args.who.now seat in cc

pub unreachable-requires-in-None : goal.unreachable-requires-in-None
unreachable-requires-in-None g c =
    let seats = c.self.inside in
    let seat = seat-of seats.taken seats.keys.items c.args.who.now c.self.invariant.numbered (rw (← c.self.view_is) at c.requires) in
    let found : key_of seats.keys.items c.args.who.now ≡ Some c.in-Some.key = rw (← c.deref.ensures.value) (sym c.key_of.ensures ∙ c.in-Some.is) in
    let key : seat.key ≡ c.in-Some.key = same_Some seat.key c.in-Some.key (sym (key-of-seat seats.taken seats.keys.items c.args.who.now seat) ∙ found) in
    let none : get seats.taken c.in-Some.key ≡ None = sym c.get_mut.follows ∙ (rw c.in-None.is refl) in
    let bad : None ≡ Some seat.seat = sym none ∙ ap (get seats.taken) (sym key) ∙ seat.there in cc

pub invariant_of-self : goal.invariant_of-self
invariant_of-self g c =
    let seats = c.self.inside in
    let seat = seat-of seats.taken seats.keys.items c.args.who.now c.self.invariant.numbered (rw (← c.self.view_is) at c.requires) in
    let found : key_of seats.keys.items c.args.who.now ≡ Some c.in-Some.key = rw (← c.deref.ensures.value) (sym c.key_of.ensures ∙ c.in-Some.is) in
    let key : seat.key ≡ c.in-Some.key = same_Some seat.key c.in-Some.key (sym (key-of-seat seats.taken seats.keys.items c.args.who.now seat) ∙ found) in
    let there : get seats.taken c.in-Some.key ≡ Some c.in-Some-get_mut.seat.now = sym c.get_mut.follows ∙ (rw c.in-Some-get_mut.is refl) in
    AreSequenceSeats-write seats.taken seats.keys.items seats.first seat.place c.in-Some.key c.in-Some-get_mut.seat.now c.hear.new.self (seat.at ∙ ap Some key) there c.self.invariant

pub returns-clause-asked : goal.returns-clause-asked
returns-clause-asked g c =
    let seats = c.self.inside in
    let seat = seat-of seats.taken seats.keys.items c.args.who.now c.self.invariant.numbered (rw (← c.self.view_is) at c.requires) in
    let found : key_of seats.keys.items c.args.who.now ≡ Some c.in-Some.key = rw (← c.deref.ensures.value) (sym c.key_of.ensures ∙ c.in-Some.is) in
    let key : seat.key ≡ c.in-Some.key = same_Some seat.key c.in-Some.key (sym (key-of-seat seats.taken seats.keys.items c.args.who.now seat) ∙ found) in
    let there : get seats.taken c.in-Some.key ≡ Some c.in-Some-get_mut.seat.now = sym c.get_mut.follows ∙ (rw c.in-Some-get_mut.is refl) in
    let same : seat.seat ≡ c.in-Some-get_mut.seat.now = same_Some seat.seat c.in-Some-get_mut.seat.now (sym seat.there ∙ ap (get seats.taken) key ∙ there) in
    let who : Sequence c.in-Some-get_mut.seat.now.home c.in-Some-get_mut.seat.now.id ≡ c.args.who.now = ap (λ s. Sequence s.home s.id) (sym same) ∙ seat.sits in
    let written = sitters-write seats.taken seats.keys.items seats.first seat.place c.in-Some.key c.in-Some-get_mut.seat.now c.hear.new.self (seat.at ∙ ap Some key) there c.self.invariant in
    let front = sitters_in seats.taken (take seat.place seats.keys.items) in
    let behind = sitters_in seats.taken (drop (suc seat.place) seats.keys.items) in
    rw (← c.self.view_is, ← who)
    (record {
      before = c.in-Some-get_mut.seat.now.object;
      after = c.hear.new.self;
      others = front ++ behind;
      was = rw written.was (IsPermutation-sym _ _ (IsPermutation-middle front _ behind));
      is = rw written.is (IsPermutation-sym _ _ (IsPermutation-middle front _ behind));
      same_name = c.hear.ensures.same_name;
      same_says = c.hear.ensures.same_says;
      said = c.hear.ensures.said;
    })

pub returns-clause-keys : goal.returns-clause-keys
returns-clause-keys g c =
    let seats = c.self.inside in
    let seat = seat-of seats.taken seats.keys.items c.args.who.now c.self.invariant.numbered (rw (← c.self.view_is) at c.requires) in
    let found : key_of seats.keys.items c.args.who.now ≡ Some c.in-Some.key = rw (← c.deref.ensures.value) (sym c.key_of.ensures ∙ c.in-Some.is) in
    let key : seat.key ≡ c.in-Some.key = same_Some seat.key c.in-Some.key (sym (key-of-seat seats.taken seats.keys.items c.args.who.now seat) ∙ found) in
    let there : get seats.taken c.in-Some.key ≡ Some c.in-Some-get_mut.seat.now = sym c.get_mut.follows ∙ (rw c.in-Some-get_mut.is refl) in
    rw (← c.self.view_is) (keys-write seats.taken seats.keys.items seats.first seat.place c.in-Some.key c.in-Some-get_mut.seat.now c.hear.new.self (seat.at ∙ ap Some key) there c.self.invariant)
