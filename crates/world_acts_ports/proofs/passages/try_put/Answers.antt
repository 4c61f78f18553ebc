use Rattle.world_acts_ports.proofs.Common.{◌≡◌, length, filter, Some, None, is_some, ap, sym, ◌∙◌, refl, rules, TryPut, Object, finished_of, caused_at, scheduled_events, delivered_causes, is_open, act_phase, now_of, ended_of, objections_of, puts_now, fifo_state_below, fifo_port_below, passing_refusal, events-told, scene-open, acted, refused-here, agenda-event}
use Rattle.uvm_tlm.specs.declared.ends.PortKind.TheVariants as through
use Rattle.uvm_acts.specs.declared.acts.Call.TheVariants as call
use Rattle.world_acts_ports.proofs.FifoPorts.{below-known, fifo_port-open, open-does, open-refuses, try-put-kept}
use Rattle.world_acts_ports.proofs.passages.try_put.Goals as goal

pub returns-in-Err : goal.returns-in-Err
returns-in-Err c =
    let performer = c.args.services.now.answer.performer in
    let why = c.in-Err.ensures in
    refused-here _ _ _ (TryPut c.args.name.now c.args.item) c.in-Err.fatal c.args.place c.refused.ensures.act_result c.refused.ensures.services (λ script history m.
    let refuses : passing_refusal (act_phase history) (is_some (fifo_port_below history performer through.Put c.args.name.now)) ≡ Some c.in-Err.fatal = open-refuses m c.requires through.Put c.args.name.now c.in-Err.fatal why in
    rw refuses refl)

pub returns : goal.returns
returns c =
    let performer = c.args.services.now.answer.performer in
    let found = c.in-Ok.ensures in
    let told = c.in_ok-tell.ensures in
    let stored = c.in_ok-stored.stored in
    rw (c.stored.ensures, told.rest) (record {
      comes = λ script history s.
          let g = fifo_port-open s c.requires found in
          let does : passing_refusal (act_phase history) (is_some (fifo_port_below history performer through.Put c.args.name.now)) ≡ None = open-does g in
          let stores : puts_now (fifo_state_below history performer through.Put c.args.name.now) ≡ stored = ap puts_now (below-known g ∙ sym (s.known.fifo_states.each _)) ∙ sym c.in_ok-stored.ensures.value in
          rw (does, stores) refl;
      kept = record {
        same_answer = refl;
        with_entry = λ script history s.
            let m = s.known in
            let left = s.left in
            let k = try-put-kept s stored c.args.item c.put_at_once.new.fifo_states (fifo_port-open s c.requires found) c.in_ok-stored.ensures.after c.in_ok-set_fifo_to_settle.ensures in
            let fifo_states = k.fifo_states_are in
            let passed = k.passed in
            let fifos_to_settle = k.fifos_to_settle_are in
            let dues = rw (m.answer.phase, m.time, ← s.place_is) at (told.dues (filter (is_open (delivered_causes history) (ended_of history) (finished_of history)) (scheduled_events script history)) m.agenda.are) in
            let events = events-told (λ phase. objections_of script phase history) (is_open (delivered_causes history) (ended_of history) (finished_of history)) (act_phase history) (now_of history) (caused_at (length history)) performer (call.TryStored c.args.name.now stored) (scheduled_events script history) m.events in
            let agenda = agenda-event (Object performer) (Some (call.TryStored c.args.name.now stored)) (now_of history) (act_phase history) (scheduled_events script history) (delivered_causes history) (ended_of history) (finished_of history) _ _ _ s.in_phase.unended (scene-open s (λ opens. cc)) m.agenda dues in
            search (rules, acted);
      };
    })
