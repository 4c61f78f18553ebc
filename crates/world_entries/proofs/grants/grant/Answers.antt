use Rattle.world_entries.proofs.Common.{◌∙◌, length, filter, Some, is_some, refl, rules, Sequence, Grant, Granted, Object, finished_of, phase_begun, caused_at, scheduled_events, delivered_causes, is_open, now_of, ended_of, objections_of, events-told, agenda-event, living-unended, there-open, later}
use Rattle.uvm_acts.specs.declared.acts.Call.TheVariants as calls
use Rattle.world_entries.proofs.Granted.{chosen-known, granted-kept, living-phase, served-there}
use Rattle.world_entries.proofs.grants.grant.Goals as goal

pub choose_at-id-requires-clause-ready : goal.choose_at-id-requires-clause-ready
choose_at-id-requires-clause-ready c =
    let due = c.requires in
    let serving = c.grants_go_in_order.ensures due.script due.history c.args.sequencer (is_some c.args.word) _ due.coming.next in
    served-there due.known c.args.sequencer (is_some c.args.word) serving.served

pub returns-clause-chosen : goal.returns-clause-chosen
returns-clause-chosen c = λ script before m. chosen-known m c.args.sequencer c.choose_at-id.result c.args.word c.choose_at-id.ensures.value

pub returns-clause-goes_on : goal.returns-clause-goes_on
returns-clause-goes_on c = λ script before coming m.
    let told = c.in_ok-schedule_call.ensures in
    let id = c.choose_at-id.result in
    let grant : Grant = record { id = id; word = c.args.word } in
    let call = calls.Grant in
    let serving = c.grants_go_in_order.ensures script before c.args.sequencer (is_some c.args.word) _ coming.next in
    let chosen = chosen-known m c.args.sequencer id c.args.word c.choose_at-id.ensures.value in
    let stays = c.wiring_stays.ensures script before (Granted c.args.sequencer grant) (rw coming.next (grant, refl, chosen, refl)) in
    let living = c.chosen_are_there.ensures script before c.args.sequencer id (is_some c.args.word) _ c.args.word coming.each coming.next chosen in
    let phase = (rw c.as_slice.ensures.value at c.phase_at-phase.ensures) ∙ living-phase m id living in
    let unended = living-unended before id living.lives in
    let dues = rw (phase, m.time, ← coming.place_is, c.in_ok-held.ensures.ok) at (told.dues (filter (is_open (delivered_causes before) (ended_of before) (finished_of before)) (scheduled_events script before)) m.agenda.are) in
    let events = events-told (λ phase. objections_of script phase before) (is_open (delivered_causes before) (ended_of before) (finished_of before)) (phase_begun before id) (now_of before) (caused_at (length before)) (Sequence c.args.sequencer id) call (scheduled_events script before) m.events in
    let agenda = agenda-event (Object (Sequence c.args.sequencer id)) (Some call) (now_of before) (phase_begun before id) (scheduled_events script before) (delivered_causes before) (ended_of before) (finished_of before) _ _ _ unended (there-open before (Sequence c.args.sequencer id) living) m.agenda dues in
    let arbitrating = granted-kept m c.args.sequencer (is_some c.args.word) grant c.choose_at-id.new.arbiters serving.served c.choose_at-id.ensures.after c.passed_stays.ensures c.choose_at-id.ensures.value in
    rw told.rest (search (rules, later))
