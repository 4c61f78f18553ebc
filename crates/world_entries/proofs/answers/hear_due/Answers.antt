use Rattle.world_entries.proofs.Common.{◌≡◌, Some, refl, ap, ◌∙◌, slice_get, rules, arith, Origin, Heard, test_creation, ended_of, nodes_of, finished_of, scheduled_events, delivered_causes, objections_of, agenda-heard, events-heard, known-better, known-there, later, GrantIndex, known_at, arbitrating-grown, none-locked, none-served}
use Rattle.world_entries.proofs.Heard.{there-within, heard-answer}
use Rattle.world_entries.proofs.answers.hear_due.Goals as goal

pub pass_blocked-requires : goal.pass_blocked-requires
pass_blocked-requires c = known-there c.requires.1.known

pub returns : goal.returns
returns c = λ call acts many script before coming known.
    let origin = c.args.origin in
    let m = rw (← c.pass_blocked.ensures.rest) at (known-better c.pass_blocked.new.self.grant_index c.pass_blocked.ensures.nodes c.pass_blocked.ensures.known known) in
    let stays = c.wiring_stays.ensures script before (Heard c.args.who (Some origin) call acts) (rw coming.next (_, refl)) in
    let d = c.due_calls_go_in_order.ensures script before c.args.who call origin coming.next in
    let first = ap (λ l. slice_get l 0) m.agenda.are ∙ d.first in
    let at-origin : d.event.cause ≡ origin.cause = ap (λ (one : Origin). one.cause) d.origin_is in
    let agenda = rw at-origin at (agenda-heard (scheduled_events script before) (delivered_causes before) (ended_of before) (finished_of before) _ _ _ d.event c.order_keeps_all.ensures c.order_loses_first.ensures m.agenda first c.take_first.ensures.rest) in
    let events = events-heard origin.cause (λ phase. objections_of script phase before) (scheduled_events script before) (delivered_causes before) (ended_of before) (finished_of before) m.events in
    let asked = c.asked_are_there.ensures script before c.args.who call (Some origin) coming.each coming.next in
    let homes = c.homes_are_nodes.ensures script before coming.each in
    let speaks = there-within before c.args.who asked homes m.phase_cursors in
    let answer = rw (← c.answer_cursor-services.ensures) at (rw (coming.place_is, many) at (heard-answer (test_creation script) before c.args.who call (Some origin) acts (Some origin.phase) refl)) in
    let settled = c.answers_are_settled.ensures script before c.args.who call (Some origin) coming.next in
    let arbitrating = arbitrating-grown {after = c.close.new.self} (nodes_of before) (omega arith) c.close.ensures.nodes (λ n. ap (λ (one : GrantIndex). known_at one n) c.close.ensures.rest) (none-locked before m.arbitrating.contested_is settled.unlocked) (none-served before m.arbitrating.contested_is settled.unserved) m.arbitrating in
    search (rules, later)
