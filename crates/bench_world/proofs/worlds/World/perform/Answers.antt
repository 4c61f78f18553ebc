use Rattle.bench_world.proofs.Common.{◌≡◌, false, true, None, length, refl, sym, ◌∙◌, rules, end_at, is_closed, late_fault, in_task, answer-open, known-there, scene-of, each-few, each-numbered, building-open, connectable-open, unused}
use Rattle.bench_world.proofs.Going.{act-next, goes-still, performed, short}
use Rattle.bench_world.proofs.Waits.{acted-enters, acted-needs, waits}
use Rattle.bench_world.proofs.worlds.World.perform.Goals as goal

pub carry_out-requires-clause-can : goal.carry_out-requires-clause-can
carry_out-requires-clause-can c =
    let r = rw (← c.self.view_is) at c.requires in
    let m = c.self.invariant.1.services_match r.sound in
    let wiring = c.self.inside.services.wiring in
    let building : c.self.inside.services.built ≡ false → late_fault wiring ≡ None = λ built. building-open wiring m.closing (sym m.built ∙ built) in
    let connectable : c.self.inside.services.past_connect ≡ false → late_fault wiring ≡ None = λ past. connectable-open wiring r.left m.closing (sym m.past_connect ∙ past) in
    let unused : end_at wiring.ends (length c.self.inside.services.tree.nodes) ≡ None = rw m.tree (unused m.connecting) in
    let before = c.self.inside.log.entries in
    let each = c.self.invariant.1.legal.each in
    let low = short c.self.inside.script in
    let phases = c.acts_are_in_phase.ensures c.self.inside.script before c.args.stored_act each (act-next c.self.inside.script before c.args.stored_act r.next) r.left in
    let closed : in_task c.self.inside.services.answer.phase ≡ true → is_closed wiring ≡ true = λ task.
    let acts = rw m.answer.phase at task in
    m.closed_past.is (c.tasks_follow_connect.ensures c.self.inside.script before each (goes-still before phases.going acts) acts) in
    record {
      speaks = rw (m.tree, m.answer.performer) m.speaks;
      numbered = rw m.tree (each-numbered m.objections);
      report = search (rules, low);
      few = λ phase. let raised = each-few m.objections phase in search (rules, raised, low);
      time = m.early;
      building = building;
      connectable = connectable;
      unused = unused;
      closed = closed;
      known = known-there m;
    }

pub carry_out-requires-clause-open : goal.carry_out-requires-clause-open
carry_out-requires-clause-open c =
    let r = rw (← c.self.view_is) at c.requires in
    answer-open c.args.stored_act r.left (c.self.invariant.1.services_match r.sound).answer

pub invariant_of-self-in-None : goal.invariant_of-self-in-None
invariant_of-self-in-None c =
    let r = rw (← c.self.view_is) at c.requires in
    let e = rw c.in-None.is at c.in_ok-carry_out.ensures.ok in
    performed e.outcome c.args.stored_act c.self.invariant r.sound r.room r.settled r.left r.next c.acts_are_in_phase.ensures c.performers_are_there.ensures c.drivers_are_there.ensures e.performed e.entries c.in_ok-carry_out.ensures.limit e.leaves e.done

pub invariant_of-self-in-Some : goal.invariant_of-self-in-Some
invariant_of-self-in-Some c =
    let r = rw (← c.self.view_is) at c.requires in
    let w = rw c.in-Some.is at c.in_ok-carry_out.ensures.ok in
    rw w.1 (waits c.args.stored_act c.in-Some.creation c.self.invariant r.sound r.room r.settled r.left r.next c.acts_are_in_phase.ensures c.performers_are_there.ensures c.drivers_are_there.ensures w.0 c.in_ok-carry_out.ensures.limit)

pub returns-in-None-clause-ok : goal.returns-in-None-clause-ok
returns-in-None-clause-ok c =
    let r = rw (← c.self.view_is) at c.requires in
    let m = c.self.invariant.1.services_match r.sound in
    let before = c.self.inside.log.entries in
    let e = rw c.in-None.is at c.in_ok-carry_out.ensures.ok in
    let scene = scene-of c.args.stored_act m c.self.invariant.1.legal.each r.settled r.left c.acts_are_in_phase.ensures c.performers_are_there.ensures c.drivers_are_there.ensures (act-next c.self.inside.script before c.args.stored_act r.next) in
    rw (← c.self.view_is) (acted-enters c.self.inside.script c.self.inside.sound _ _ e r.next m.answer.performer scene r.sound)

pub returns-in-Some-clause-ok : goal.returns-in-Some-clause-ok
returns-in-Some-clause-ok c =
    let r = rw (← c.self.view_is) at c.requires in
    let m = c.self.invariant.1.services_match r.sound in
    let before = c.self.inside.log.entries in
    let w = rw c.in-Some.is at c.in_ok-carry_out.ensures.ok in
    let scene = scene-of c.args.stored_act m c.self.invariant.1.legal.each r.settled r.left c.acts_are_in_phase.ensures c.performers_are_there.ensures c.drivers_are_there.ensures (act-next c.self.inside.script before c.args.stored_act r.next) in
    rw (← c.self.view_is) (acted-needs c.self.inside.script before _ c.self.inside.sound _ r.next m.answer.performer (w.0.need.comes c.self.inside.script before scene) w.0.entries r.sound refl)
