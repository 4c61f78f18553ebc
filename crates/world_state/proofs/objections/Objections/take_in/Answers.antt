use Rattle.world_state.proofs.Common.{◌∷◌, [], sym, subst, All, All-append, All-cons, All-nil, CanDrain, HasOwnPlace, ObjectionsValue, place_in, Drain}
use Rattle.world_state.proofs.objections.Objections.take_in.Goals as goal

pub invariant_of-self-2 : goal.invariant_of-self-2
invariant_of-self-2 c =
    let rows = c.self.inside.given.items in
    let drain = c.in_ok-copied.copied in
    let own = subst (λ (o : ObjectionsValue). HasOwnPlace (place_in c.args.drain.now.phase) o.each) (sym c.self.view_is) c.in_ok-own_place.ensures.own in
    let one : HasOwnPlace (place_in drain.phase) c.self.inside.each.items = subst (λ (d : Drain). HasOwnPlace (place_in d.phase) c.self.inside.each.items) (sym c.in_ok-copied.ensures) own in
    let sound : CanDrain drain = subst CanDrain (sym c.in_ok-copied.ensures) c.requires in
    let more = sym c.in_ok-push.ensures.items in
    record {
      least = c.self.invariant.least;
      most = c.self.invariant.most;
      sound = subst (All CanDrain) more (All-append CanDrain rows (drain ∷ []) c.self.invariant.sound (All-cons CanDrain drain [] sound (All-nil CanDrain)));
      own = let P : Drain → Type 0 = λ d. HasOwnPlace (place_in d.phase) c.self.inside.each.items in subst (All P) more (All-append P rows (drain ∷ []) c.self.invariant.own (All-cons P drain [] one (All-nil P)));
    }
