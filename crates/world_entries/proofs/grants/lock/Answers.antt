use Rattle.world_entries.proofs.Common.{◌∙◌, length, filter, Some, refl, rules, Sequence, Locked, Object, finished_of, phase_begun, caused_at, scheduled_events, delivered_causes, is_open, now_of, ended_of, objections_of, events-told, agenda-event, living-unended, there-open, known-none, later}
use Rattle.uvm_acts.specs.declared.acts.Call.TheVariants as calls
use Rattle.world_entries.proofs.Granted.{led-there, living-phase, locked-kept}
use Rattle.world_entries.proofs.grants.lock.Goals as goal

pub passed_at-passed-requires : goal.passed_at-passed-requires
passed_at-passed-requires c = known-none _ _

pub settle_at-requires-clause-leads : goal.settle_at-requires-clause-leads
settle_at-requires-clause-leads c =
    let due = c.requires in
    let next = c.locks_go_in_order.ensures due.script due.history c.args.sequencer c.args.id due.coming.next in
    rw c.in_ok-schedule_call.ensures.rest (led-there due.known c.args.sequencer c.args.id next)

pub returns : goal.returns
returns c = λ script before coming m.
    let told = c.in_ok-schedule_call.ensures in
    let id = c.args.id in
    let call = calls.Held in
    let stays = c.wiring_stays.ensures script before (Locked c.args.sequencer id) (rw coming.next refl) in
    let next = c.locks_go_in_order.ensures script before c.args.sequencer id coming.next in
    let living = c.lockers_are_there.ensures script before c.args.sequencer id coming.each coming.next in
    let phase = (rw c.as_slice.ensures.value at c.phase_at-phase.ensures) ∙ living-phase m id living in
    let unended = living-unended before id living.lives in
    let dues = rw (phase, m.time, ← coming.place_is, c.in_ok-held.ensures.ok) at (told.dues (filter (is_open (delivered_causes before) (ended_of before) (finished_of before)) (scheduled_events script before)) m.agenda.are) in
    let events = events-told (λ phase. objections_of script phase before) (is_open (delivered_causes before) (ended_of before) (finished_of before)) (phase_begun before id) (now_of before) (caused_at (length before)) (Sequence c.args.sequencer id) call (scheduled_events script before) m.events in
    let agenda = agenda-event (Object (Sequence c.args.sequencer id)) (Some call) (now_of before) (phase_begun before id) (scheduled_events script before) (delivered_causes before) (ended_of before) (finished_of before) _ _ _ unended (there-open before (Sequence c.args.sequencer id) living) m.agenda dues in
    let changes = rw told.rest at c.settle_at.ensures in
    let arbitrating = locked-kept m c.args.sequencer id c.settle_at.new.arbiters next living changes c.passed_at-passed.result c.learn.new.self (rw told.rest at c.passed_at-passed.ensures) (rw told.rest at c.learn.ensures.nodes) (rw told.rest at c.learn.ensures.known) in
    rw told.rest (search (rules, later))
