use Rattle.world_acts_ports.proofs.Common.{◌≡◌, length, filter, Some, None, is_some, ◌∙◌, refl, rules, Analysis, Write, Done, finished_of, scheduled_events, delivered_causes, is_open, calls_caused, act_phase, nodes_of, now_of, ended_of, objections_of, imps_below, port_below, passing_refusal, acted, refused-here, agenda-written, events-calls, written-open}
use Rattle.world_acts_ports.proofs.Outlets.{calls-are, outlet-does, outlet-open, outlet-refuses, written-kept}
use Rattle.world_acts_ports.proofs.writes.write.Goals as goal

pub returns-in-Err : goal.returns-in-Err
returns-in-Err c =
    let performer = c.args.services.now.answer.performer in
    let why = c.in-Err.ensures in
    refused-here _ _ _ (Write c.args.name.now c.args.item) c.in-Err.fatal c.args.place c.refused.ensures.act_result c.refused.ensures.services (λ script history m.
    let refuses : passing_refusal (act_phase history) (is_some (port_below history performer Analysis c.args.name.now)) ≡ Some c.in-Err.fatal = outlet-refuses m c.requires c.args.name.now c.in-Err.fatal why in
    rw refuses refl)

pub store_all-requires : goal.store_all-requires
store_all-requires c =
    let found = c.in-Ok.ensures in
    rw c.resolve-targets.ensures.targets (c.targets_are_reached.ensures c.args.services.now.wiring c.resolve-targets.ensures.wiring (c.requires.closed found.0) c.in-Ok.port).distinct

pub returns : goal.returns
returns c =
    let services = c.args.services.now in
    let performer = services.answer.performer in
    let name = c.args.name.now in
    let item = c.args.item in
    let found = c.in-Ok.ensures in
    let reached = c.resolve-targets.ensures in
    let stored = rw reached.targets at c.in_ok-store_all.ensures in
    rw (c.done.ensures.act_result, c.done.ensures.services) (record {
      comes = λ script history s.
          let o = outlet-open s.known c.requires c.targets_accept_the_kind.ensures reached.wiring found in
          let does : passing_refusal (act_phase history) (is_some (port_below history performer Analysis name)) ≡ None = outlet-does o in
          rw does refl;
      kept = record {
        same_answer = refl;
        with_entry = λ script history s.
            let m = s.known in
            let left = s.left in
            let o = outlet-open m c.requires c.targets_accept_the_kind.ensures reached.wiring found in
            let k = written-kept s item c.store_all.new.fifo_states o stored (c.in_ok-set_fifos_to_settle.ensures ∙ reached.targets) in
            let fifo_states = k.fifo_states_are in
            let passed = k.passed in
            let fifos_to_settle = k.fifos_to_settle_are in
            let written = calls_caused history performer Done (Write name item) in
            let calls : c.as_slice.result.now ≡ written = c.as_slice.ensures.value ∙ c.in_ok-calls.ensures ∙ rw reached.targets (calls-are item m o) in
            let dues = rw (m.time, ← s.place_is, calls) at (c.in_ok-tell_all.ensures (filter (is_open (delivered_causes history) (ended_of history) (finished_of history)) (scheduled_events script history)) m.agenda.are) in
            let events = events-calls (λ phase. objections_of script phase history) (is_open (delivered_causes history) (ended_of history) (finished_of history)) (now_of history) (length history) 0 written (scheduled_events script history) m.events in
            let agenda = agenda-written (now_of history) written (scheduled_events script history) (delivered_causes history) (ended_of history) (finished_of history) (length history) _ _ (written-open (act_phase history) (nodes_of history) item (ended_of history) (finished_of history) (imps_below history performer name) s.in_phase.unended) m.agenda dues in
            search (rules, acted);
      };
    })
