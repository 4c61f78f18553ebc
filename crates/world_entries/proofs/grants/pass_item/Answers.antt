use Rattle.world_entries.proofs.Common.{length, filter, Some, refl, rules, Passed, Object, finished_of, caused_at, scheduled_events, delivered_causes, is_open, call_of_passage, now_of, ended_of, objections_of, events-told, agenda-event, component-open, later, next-passes, passed-changes, passed-more, fifo_states-changed, fifos_to_settle-passed}
use Rattle.world_entries.proofs.grants.pass_item.Goals as goal

pub returns : goal.returns
returns c = λ script before coming m.
    let told = c.in_ok-tell_passed.ensures in
    let passage = c.args.passage.now in
    let stays = c.wiring_stays.ensures script before (Passed c.args.fifo passage) (rw coming.next refl) in
    let passes = next-passes before c.args.fifo passage (c.passages_go_in_order.ensures script before c.args.fifo passage coming.next) in
    let unended = c.passages_are_in_phase.ensures script before c.args.fifo passage coming.next in
    let waiter = c.waiters_are_components.ensures script before c.args.fifo passage coming.each coming.next in
    let call = call_of_passage passage.kind passage in
    let dues = rw (m.time, ← coming.place_is) at (told.dues (filter (is_open (delivered_causes before) (ended_of before) (finished_of before)) (scheduled_events script before)) m.agenda.are) in
    let events = events-told (λ phase. objections_of script phase before) (is_open (delivered_causes before) (ended_of before) (finished_of before)) (Some passage.phase) (now_of before) (caused_at (length before)) passage.who call (scheduled_events script before) m.events in
    let agenda = agenda-event (Object passage.who) (Some call) (now_of before) (Some passage.phase) (scheduled_events script before) (delivered_causes before) (ended_of before) (finished_of before) _ _ _ unended (component-open before passage.who waiter) m.agenda dues in
    let pass = rw told.rest at c.pass.ensures in
    let fifo_states = fifo_states-changed c.args.fifo _ {new = c.pass.new.fifo_states} (passed-changes before c.args.fifo passage m.passed passes) pass m.fifo_states in
    let passed = passed-more before c.args.fifo passage m.passed passes in
    let fifos_to_settle = fifos_to_settle-passed before c.args.fifo passage m.passed passes m.fifos_to_settle in
    rw told.rest (search (rules, later))
