use Rattle.bench_world.proofs.Common.{inr, refl, ap, rules, subst, ◌∙◌, sym, Did, Refused, NoObject, performer_of, IsAct, IsNext, refused-taken-in, ok-not-err, wanted, answer-open, AnswerCursor, Creation}
use Rattle.bench_world.proofs.Pendings.{creation-waits}
use Rattle.bench_world.proofs.Going.{acted-on, short}
use Rattle.bench_world.proofs.worlds.World.declined.Goals as goal

pub refused_by-requires-clause-can : goal.refused_by-requires-clause-can
refused_by-requires-clause-can c =
    let low = short c.self.inside.script in
    search (rules, low)

pub refused_by-requires-clause-report : goal.refused_by-requires-clause-report
refused_by-requires-clause-report c = (c.self.invariant.1.ready (Creation c.in-Some.parts) (creation-waits _ _ (sym c.take_parts.ensures.value ∙ c.in-Some.is))).declined

pub unreachable-requires-in_default-refused_by : goal.unreachable-requires-in_default-refused_by
unreachable-requires-in_default-refused_by c =
    let ready = c.self.invariant.1.ready (Creation c.in-Some.parts) (creation-waits _ _ (sym c.take_parts.ensures.value ∙ c.in-Some.is)) in
    ok-not-err c.refused_by.result c.in_default-refused_by.field-0 (c.refused_by.ensures.memory (rw ready.declined ready.has_room.report_room)) c.in_default-refused_by.is

pub enter-requires-clause-room : goal.enter-requires-clause-room
enter-requires-clause-room c =
    let ready = c.self.invariant.1.ready (Creation c.in-Some.parts) (creation-waits _ _ (sym c.take_parts.ensures.value ∙ c.in-Some.is)) in
    rw c.self.invariant.1.limit ready.room

pub enter-requires-clause-open : goal.enter-requires-clause-open
enter-requires-clause-open c =
    let is = creation-waits _ _ (sym c.take_parts.ensures.value ∙ c.in-Some.is) in
    let m = c.self.invariant.1.services_match (c.self.invariant.1.waits (Creation c.in-Some.parts) is) in
    let ready = c.self.invariant.1.ready (Creation c.in-Some.parts) is in
    let kept = refused-taken-in {place = 0} c.in-Some.parts.stored_act NoObject c.in-Ok.ensures.services in
    rw kept.same_answer (answer-open c.in-Some.parts.stored_act ready.left m.answer)

pub unreachable-requires-in_default-enter : goal.unreachable-requires-in_default-enter
unreachable-requires-in_default-enter c =
    let ready = c.self.invariant.1.ready (Creation c.in-Some.parts) (creation-waits _ _ (sym c.take_parts.ensures.value ∙ c.in-Some.is)) in
    ok-not-err c.enter.result c.in_default-enter.field-0 (c.enter.ensures.memory ready.has_room.log_spare) c.in_default-enter.is

pub returns : goal.returns
returns c =
    let is = creation-waits _ _ (sym c.take_parts.ensures.value ∙ c.in-Some.is) in
    let sound = c.self.invariant.1.waits (Creation c.in-Some.parts) is in
    let m = c.self.invariant.1.services_match sound in
    let ready = c.self.invariant.1.ready (Creation c.in-Some.parts) is in
    let before = c.self.inside.log.entries in
    let act = c.in-Some.parts.stored_act in
    let w = wanted c.needs_are_wanted.ensures c.self.inside.script before act (rw ready.needed refl) ready.left in
    let kept = refused-taken-in {place = 0} act NoObject c.in-Ok.ensures.services in
    let entries = rw (c.in-Ok.ensures.outcome, kept.same_answer, m.answer.performer) at c.in-Ok-enter.ensures.ok in
    rw (← c.self.view_is, w.next, entries, c.take_parts.ensures.after, sound) refl

pub invariant_of-self : goal.invariant_of-self
invariant_of-self c =
    let is = creation-waits _ _ (sym c.take_parts.ensures.value ∙ c.in-Some.is) in
    let sound = c.self.invariant.1.waits (Creation c.in-Some.parts) is in
    let ready = c.self.invariant.1.ready (Creation c.in-Some.parts) is in
    let before = c.self.inside.log.entries in
    let act = c.in-Some.parts.stored_act in
    let w = wanted c.needs_are_wanted.ensures c.self.inside.script before act (rw ready.needed refl) ready.left in
    let next : IsNext c.self.inside.script before (Did (performer_of before) (Refused NoObject) act) = rw w.next (inr refl) in
    let entries = rw c.in-Ok.ensures.outcome at c.in-Ok-enter.ensures.ok in
    let is_act = subst IsAct (sym w.next) tt in
    rw c.take_parts.ensures.after (acted-on (Refused NoObject) act c.self.invariant sound ready.room w.settled ready.left next is_act c.acts_are_in_phase.ensures c.performers_are_there.ensures c.drivers_are_there.ensures (refused-taken-in act NoObject c.in-Ok.ensures.services) entries c.in-Ok-enter.ensures.limit c.clear.ensures.items (ap (λ (a : AnswerCursor). record c.refused_by.new.services { answer = a }) c.in-Ok-enter.ensures.answer))
