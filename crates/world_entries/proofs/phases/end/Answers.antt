use Rattle.world_entries.proofs.Common.{◌≡◌, ◌||◌, ◌∷◌, length, refl, ◌∙◌, ap, filter, rules, list_any, is_runtime, is_closed, End, starts_of, finished_of, scheduled_events, delivered_causes, is_open, ends_build, nodes_of, ended_of, stage_of, now_of, objections_of, ends_connect, wiring_of, IsClosedPast, IsClosing, IsConnecting, IsSequencing, enders_of, leaving_with, is_told, closing-after, connecting-after, ends-ordered, past-after, events-ended, agenda-ended, agenda-living, events-calls, leaving-known, sequencing-ended, arbitrating-ended, lapsed-known, lapsed-told, reopened, later, fifo_states-ended, fifos_to_settle-ended, phase_cursors-ended, lapsed_with, IsNext}
use Rattle.bench_history.specs.Dues as dues
use Rattle.world_entries.proofs.Ended.{beside-past, or-true, order-holds, reopened-is}
use Rattle.world_entries.proofs.phases.end.Goals as goal

pub close_after-requires : goal.close_after-requires
close_after-requires c =
    let due = c.requires in
    let m = due.known in
    let services = c.args.services.now in
    let connecting : IsConnecting services.tree.nodes (wiring_of due.history) services.wiring = rw m.tree m.connecting in
    ends-ordered {nodes = services.tree.nodes} {wiring = wiring_of due.history} {kept = services.wiring} (c.path_order_is_in_order.ensures services.tree.nodes) connecting

pub returns-clause-leaving : goal.returns-clause-leaving
returns-clause-leaving c = λ script before m.
    let phase = c.args.phase in
    let left : c.in_ok-leaving.leaving.items ≡ leaving_with c.args.services.now.sequences.steps phase c.args.services.now.start_records.items = rw c.as_slice-start_records.ensures.value at c.in_ok-leaving.ensures in
    left ∙ leaving-known before phase m.sequencing

pub returns-clause-goes_on : goal.returns-clause-goes_on
returns-clause-goes_on c = λ script before coming m.
    let nodes = c.args.services.now.tree.nodes in
    let wiring = c.args.services.now.wiring in
    let phase = c.args.phase in
    let stays = c.wiring_stays.ensures script before (End phase) (rw coming.next refl) in
    let left : c.in_ok-leaving.leaving.items ≡ leaving_with c.args.services.now.sequences.steps phase c.args.services.now.start_records.items = rw c.as_slice-start_records.ensures.value at c.in_ok-leaving.ensures in
    let built = c.is_built_with-services.ensures ∙ ap (λ built. ends_build (End phase) || built) m.built in
    let past_connect = c.is_past_connect_with-services.ensures ∙ ap (λ past. ends_connect (End phase) || past) m.past_connect in
    let connecting : IsConnecting (nodes_of before) (wiring_of before) c.close_after.new.wiring = rw (c.in_ok-close_after.ensures, m.tree) (connecting-after phase m.connecting) in
    let closing : IsClosing script (End phase ∷ before) (is_closed c.close_after.new.wiring) = rw c.in_ok-close_after.ensures (closing-after phase nodes wiring c.connect_follows_build.ensures (rw coming.next refl, coming.each) stays m.closing) in
    let closed_past : IsClosedPast (list_any ends_connect (End phase ∷ before)) (is_closed c.close_after.new.wiring) = rw c.in_ok-close_after.ensures (past-after before phase nodes wiring m.closed_past) in
    let fifo_states = fifo_states-ended before phase {new = c.end_waits.new.fifo_states} c.end_waits.ensures m.fifo_states in
    let fifos_to_settle = fifos_to_settle-ended before phase m.fifos_to_settle in
    let sequencing : IsSequencing (starts_of before) (finished_of before) (phase ∷ ended_of before) (enders_of before) c.finish_all.new.sequences c.args.services.now.start_records.items = sequencing-ended phase c.finish_all.new.sequences (rw (c.as_slice.ensures.value, left) at c.finish_all.ensures) m.sequencing in
    let runs = c.running_phases_end.ensures script before phase coming.next in
    let next : IsNext script before (End phase) = rw coming.next refl in
    let opens : c.reopened-nodes.result.now ≡ reopened phase (nodes_of before) =
    c.reopened-nodes.ensures
    ∙ reopened-is connecting (is_runtime phase) (λ beside. closed_past.is (or-true (ends_connect (End phase)) (list_any ends_connect before) (beside-past script before phase c.task_phases_follow_connect.ensures coming.each runs beside))) in
    let steps = c.finish_all.new.sequences.steps in
    let kept : c.in_ok-lapsed.lapsed.items ≡ lapsed_with phase steps c.args.services.now.arbiters (reopened phase (nodes_of before)) = rw opens at c.in_ok-lapsed.ensures in
    let lapsed : c.in_ok-lapsed.lapsed.items ≡ dues.lapsed_with phase before =
    kept ∙ lapsed-known script before phase c.living_run.ensures coming.each next steps sequencing.living m.arbitrating c.asks_are_in_phase.ensures runs in
    let arbitrating =
    arbitrating-ended script before phase c.living_run.ensures coming.each next steps sequencing.living {new = c.end_phase.new.arbiters} {after = c.reopen.new.self} (order-holds (nodes_of before) (c.path_order_is_in_order.ensures (nodes_of before))) c.end_phase.ensures (c.in_ok-reopen.ensures.nodes ∙ opens) c.in_ok-reopen.ensures.known m.arbitrating in
    let phase_cursors = phase_cursors-ended (stage_of before) phase runs m.phase_cursors in
    let cleared = agenda-ended (scheduled_events script before) (delivered_causes before) (ended_of before) (finished_of before) _ _ _ phase c.order_keeps_filters.ensures m.agenda c.clear.ensures.dues in
    let told = lapsed-told script before phase c.living_run.ensures coming.each next steps sequencing.living m.arbitrating c.asks_are_in_phase.ensures runs c.phases_in_progress_are_open.ensures in
    let open_ = is_open (delivered_causes before) (phase ∷ ended_of before) (finished_of before) in
    let dues_are = rw (c.as_slice-2.ensures.value, lapsed, ← coming.place_is, m.time) at (c.in_ok-tell_each.ensures (filter open_ (scheduled_events script before)) cleared.are) in
    let agenda = agenda-living (is_told steps) (delivered_causes before) (phase ∷ ended_of before) (finished_of before) (now_of before) (dues.lapsed_with phase before) (scheduled_events script before) (length before) _ _ told cleared dues_are in
    let events = events-calls (λ phase. objections_of script phase before) open_ (now_of before) (length before) 0 (dues.lapsed_with phase before) (scheduled_events script before) (events-ended phase (λ phase. objections_of script phase before) (scheduled_events script before) (delivered_causes before) (ended_of before) (finished_of before) m.events) in
    search (rules, later)
