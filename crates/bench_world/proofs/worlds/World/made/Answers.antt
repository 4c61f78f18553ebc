use Rattle.bench_world.proofs.Common.{Some, inl, refl, ◌∙◌, ap, sym, subst, Did, performer_of, IsAct, IsNext, outcome_made, answer-open, ok-not-err, wanted, wanted-need, AnswerCursor, Creation}
use Rattle.bench_world.proofs.Pendings.{creation-waits}
use Rattle.bench_world.proofs.Going.{acted-on}
use Rattle.bench_world.proofs.Makeable.{made-leaves, makeable}
use Rattle.bench_world.proofs.worlds.World.made.Goals as goal

pub make-who-requires : goal.make-who-requires
make-who-requires c =
    let is = creation-waits _ _ (sym c.take_parts.ensures.value ∙ c.in-Some.is) in
    let sound = c.self.invariant.1.waits (Creation c.in-Some.parts) is in
    let m = c.self.invariant.1.services_match sound in
    let ready = c.self.invariant.1.ready (Creation c.in-Some.parts) is in
    let before = c.self.inside.log.entries in
    let act = c.in-Some.parts.stored_act in
    let w = wanted c.needs_are_wanted.ensures c.self.inside.script before act (rw ready.needed refl) ready.left in
    let same = wanted-need w ready.needed in
    let performs = c.performers_are_there.ensures c.self.inside.script before act c.self.invariant.1.legal.each (subst IsAct (sym w.next) tt) ready.left in
    rw (c.get.ensures, c.act.ensures) (makeable c.in-Some.parts m ready w.need w.made same performs w.makes).can

pub enter-requires-clause-room : goal.enter-requires-clause-room
enter-requires-clause-room c =
    let ready = c.self.invariant.1.ready (Creation c.in-Some.parts) (creation-waits _ _ (sym c.take_parts.ensures.value ∙ c.in-Some.is)) in
    rw c.self.invariant.1.limit ready.room

pub enter-requires-clause-open : goal.enter-requires-clause-open
enter-requires-clause-open c =
    let is = creation-waits _ _ (sym c.take_parts.ensures.value ∙ c.in-Some.is) in
    let m = c.self.invariant.1.services_match (c.self.invariant.1.waits (Creation c.in-Some.parts) is) in
    let ready = c.self.invariant.1.ready (Creation c.in-Some.parts) is in
    rw c.make-who.ensures.kept.same_answer (answer-open c.in-Some.parts.stored_act ready.left m.answer)

pub unreachable-requires-in_default-enter : goal.unreachable-requires-in_default-enter
unreachable-requires-in_default-enter c =
    let ready = c.self.invariant.1.ready (Creation c.in-Some.parts) (creation-waits _ _ (sym c.take_parts.ensures.value ∙ c.in-Some.is)) in
    ok-not-err c.enter.result c.in_default-enter.field-0 (c.enter.ensures.memory ready.has_room.log_spare) c.in_default-enter.is

pub invariant_of-self : goal.invariant_of-self
invariant_of-self c =
    let is = creation-waits _ _ (sym c.take_parts.ensures.value ∙ c.in-Some.is) in
    let sound = c.self.invariant.1.waits (Creation c.in-Some.parts) is in
    let m = c.self.invariant.1.services_match sound in
    let ready = c.self.invariant.1.ready (Creation c.in-Some.parts) is in
    let before = c.self.inside.log.entries in
    let services = c.self.inside.services in
    let act = c.in-Some.parts.stored_act in
    let w = wanted c.needs_are_wanted.ensures c.self.inside.script before act (rw ready.needed refl) ready.left in
    let same = wanted-need w ready.needed in
    let is_act = subst IsAct (sym w.next) tt in
    let performs = c.performers_are_there.ensures c.self.inside.script before act c.self.invariant.1.legal.each is_act ready.left in
    let k = makeable c.in-Some.parts m ready w.need w.made same performs w.makes in
    let outcome = outcome_made services c.in-Some.parts.need.type_name c.in-Some.parts.home in
    let next : IsNext c.self.inside.script before (Did (performer_of before) outcome act) = rw (w.next, ← k.made_is) (inl refl) in
    let kept = rw (c.get.ensures, c.act.ensures, c.next_place-place.ensures) at c.make-who.ensures.kept in
    let entries = rw c.make-who.ensures.outcome at c.in-Ok.ensures.ok in
    let leaves = c.clear.ensures.items ∙ sym (made-leaves services c.in-Some.parts.need.type_name c.in-Some.parts.home services.answer.performer) in
    rw c.take_parts.ensures.after (acted-on outcome act c.self.invariant sound ready.room w.settled ready.left next is_act c.acts_are_in_phase.ensures c.performers_are_there.ensures c.drivers_are_there.ensures kept entries c.in-Ok.ensures.limit leaves (ap (λ (a : AnswerCursor). record c.make-who.new.services { answer = a }) c.in-Ok.ensures.answer))

pub returns-clause-who : goal.returns-clause-who
returns-clause-who c =
    let is = creation-waits _ _ (sym c.take_parts.ensures.value ∙ c.in-Some.is) in
    let sound = c.self.invariant.1.waits (Creation c.in-Some.parts) is in
    let m = c.self.invariant.1.services_match sound in
    let ready = c.self.invariant.1.ready (Creation c.in-Some.parts) is in
    let before = c.self.inside.log.entries in
    let act = c.in-Some.parts.stored_act in
    let w = wanted c.needs_are_wanted.ensures c.self.inside.script before act (rw ready.needed refl) ready.left in
    let same = wanted-need w ready.needed in
    let performs = c.performers_are_there.ensures c.self.inside.script before act c.self.invariant.1.legal.each (subst IsAct (sym w.next) tt) ready.left in
    let k = makeable c.in-Some.parts m ready w.need w.made same performs w.makes in
    rw (← c.self.view_is, w.next) (k.who_is ∙ ap Some (sym c.make-who.ensures.who))

pub returns-clause-entry : goal.returns-clause-entry
returns-clause-entry c =
    let is = creation-waits _ _ (sym c.take_parts.ensures.value ∙ c.in-Some.is) in
    let sound = c.self.invariant.1.waits (Creation c.in-Some.parts) is in
    let m = c.self.invariant.1.services_match sound in
    let ready = c.self.invariant.1.ready (Creation c.in-Some.parts) is in
    let before = c.self.inside.log.entries in
    let act = c.in-Some.parts.stored_act in
    let w = wanted c.needs_are_wanted.ensures c.self.inside.script before act (rw ready.needed refl) ready.left in
    let same = wanted-need w ready.needed in
    let performs = c.performers_are_there.ensures c.self.inside.script before act c.self.invariant.1.legal.each (subst IsAct (sym w.next) tt) ready.left in
    let k = makeable c.in-Some.parts m ready w.need w.made same performs w.makes in
    let entries = rw (c.make-who.ensures.outcome, c.make-who.ensures.kept.same_answer, m.answer.performer) at c.in-Ok.ensures.ok in
    rw (← c.self.view_is, w.next, k.made_is, entries, c.take_parts.ensures.after, sound) refl
