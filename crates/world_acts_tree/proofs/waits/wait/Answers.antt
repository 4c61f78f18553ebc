use Rattle.world_acts_tree.proofs.Common.{length, ◌≡◌, ◌+◌, Some, None, refl, sym, ◌∙◌, filter, rules, Wait, finished_of, scheduled_events, delivered_causes, is_open, act_phase, now_of, ended_of, wait_refusal, scene-open, acted, refused-here, agenda-event, events-told, Object, caused_at, objections_of}
use Rattle.uvm_acts.specs.declared.acts.Call.TheVariants as call
use Rattle.world_acts_tree.proofs.waits.wait.Goals as goal

pub returns-in-Some : goal.returns-in-Some
returns-in-Some c = refused-here _ _ _ (Wait c.args.ticks c.args.tag) c.in-Some.fatal c.args.place c.refused.ensures.act_result c.refused.ensures.services (λ script history m.
    let refuses : wait_refusal (act_phase history) c.args.ticks ≡ Some c.in-Some.fatal = rw (← m.answer.phase) (sym c.wait_refusal.ensures.refusal ∙ c.in-Some.is) in
    rw refuses refl)

pub returns : goal.returns
returns c =
    let told = c.in_ok-tell.ensures in
    rw (c.done.ensures.act_result, c.done.ensures.services, told.rest) (record {
      comes = λ script history s.
          let does : wait_refusal (act_phase history) c.args.ticks ≡ None = rw (← s.known.answer.phase) (sym c.in_default.ensures.refusal) in
          rw does refl;
      kept = record {
        same_answer = refl;
        with_entry = λ script history s.
            let m = s.known in
            let left = s.left in
            let dues = rw (m.answer.phase, m.time, ← s.place_is) at (told.dues (filter (is_open (delivered_causes history) (ended_of history) (finished_of history)) (scheduled_events script history)) m.agenda.are) in
            let events = events-told (λ phase. objections_of script phase history) (is_open (delivered_causes history) (ended_of history) (finished_of history)) (act_phase history) (now_of history + c.args.ticks) (caused_at (length history)) c.args.services.now.answer.performer (call.Wake c.args.tag) (scheduled_events script history) m.events in
            let agenda = agenda-event (Object c.args.services.now.answer.performer) (Some (call.Wake c.args.tag)) (now_of history + c.args.ticks) (act_phase history) (scheduled_events script history) (delivered_causes history) (ended_of history) (finished_of history) _ _ _ s.in_phase.unended (scene-open s (λ opens. cc)) m.agenda dues in
            search (rules, acted);
      };
    })
