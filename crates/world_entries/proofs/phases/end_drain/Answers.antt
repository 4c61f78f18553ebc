use Rattle.world_entries.proofs.Common.{◌≡◌, ◌≤◌, Some, filter, refl, ◌∙◌, arith, rules, Drained, released, total, settled, finished_of, scheduled_events, delivered_causes, is_open, now_of, ended_of, objections_of, nodes_in, due-released, due-is-held, known-held, drain-unended, later, drain-changes, settling}
use Rattle.world_entries.proofs.phases.end_drain.Goals as goal

pub drained-requires-clause-known : goal.drained-requires-clause-known
drained-requires-clause-known c =
    let due = c.requires in
    let origin = c.args.origin in
    let m = due.known in
    let held = due-is-held due.script (λ phase. objections_of due.script phase due.history) due.history c.args.node origin c.order_keeps_all.ensures m.events (c.drains_go_in_order.ensures due.script due.history c.args.node origin due.coming.next) in
    rw (m.objections.each origin.phase held.task).are (known-held c.args.node (objections_of due.script origin.phase due.history) held.held.held)

pub drained-requires-clause-held : goal.drained-requires-clause-held
drained-requires-clause-held c =
    let due = c.requires in
    let origin = c.args.origin in
    let m = due.known in
    let held = due-is-held due.script (λ phase. objections_of due.script phase due.history) due.history c.args.node origin c.order_keeps_all.ensures m.events (c.drains_go_in_order.ensures due.script due.history c.args.node origin due.coming.next) in
    rw (m.objections.each origin.phase held.task).are held.held.held

pub drained-requires-clause-limit : goal.drained-requires-clause-limit
drained-requires-clause-limit c =
    let due = c.requires in
    let origin = c.args.origin in
    let m = due.known in
    let held = due-is-held due.script (λ phase. objections_of due.script phase due.history) due.history c.args.node origin c.order_keeps_all.ensures m.events (c.drains_go_in_order.ensures due.script due.history c.args.node origin due.coming.next) in
    rw ((m.objections.each origin.phase held.task).are, held.held.due, ← m.time) m.early

pub returns : goal.returns
returns c = λ script before coming m.
    let origin = c.args.origin in
    let phase = origin.phase in
    let stays = c.wiring_stays.ensures script before (Drained c.args.node origin) (rw coming.next refl) in
    let due = c.in_ok-move_drains.ensures in
    let nodes = objections_of script phase before in
    let held = due-is-held script (λ p. objections_of script p before) before c.args.node origin c.order_keeps_all.ensures m.events (c.drains_go_in_order.ensures script before c.args.node origin coming.next) in
    let was = m.objections.each phase held.task in
    let are = was.are in
    let changed = released c.args.node nodes in
    let others = settled (now_of before) (total nodes) changed in
    let stay = c.places_stay.ensures in
    let same = stay.settled (now_of before) (total nodes) changed ∙ stay.released c.args.node nodes in
    let is : nodes_in c.drained.new.self phase ≡ others = rw (are, held.held.due) at c.in_ok-began.ensures.nodes in
    let begun = rw (is, are) at c.in_ok-began.ensures.began in
    let over = rw (is, are) at c.in_ok-began.ensures.ended in
    let grown = (c.nodes_grow.ensures.1 nodes was.are_nodes).released (now_of before) c.args.node in
    let low : 0 ≤ 65535 = omega arith in
    let unended = drain-unended script before c.args.node origin c.order_keeps_all.ensures (c.drains_go_in_order.ensures script before c.args.node origin coming.next) in
    let dues = rw (← coming.place_is) at (due.dues (filter (is_open (delivered_causes before) (ended_of before) (finished_of before)) (scheduled_events script before)) m.agenda.are) in
    let drains = settling (Drained c.args.node origin) phase (Some phase) changed c.in_ok-began.began (Some c.args.node) c.drained.new.self _ 0
    c.settled_go_by_totals.ensures stay c.begun_drains_are_held.ensures m refl held.task (drain-changes script before c.args.node origin) same is c.in_ok-began.ensures.others c.in_ok-began.ensures.given low grown
    (due-released c.args.node nodes) begun over unended dues in
    let agenda = drains.agenda in
    let events = drains.events in
    let objections = drains.objecting in
    rw due.rest (search (rules, later))
