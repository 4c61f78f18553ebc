use Rattle.world_acts_sequencers.proofs.Common.{length, filter, sym, ap, refl, rules, Some, None, Ask, Object, finished_of, caused_at, scheduled_events, delivered_causes, is_open, act_phase, ended_of, now_of, objections_of, GrantIndex, known_at, asked_at, events-told, scene-open, acted, refused-here, agenda-event, ChangesAt}
use Rattle.uvm_acts.specs.declared.acts.Call.TheVariants as call
use Rattle.world_acts_sequencers.proofs.Seated.{refused-still, unchanged, with-arbiters}
use Rattle.world_acts_sequencers.proofs.Driven.{ask-none, ask-refused, ask-unreached, ask-waits, asked-goes, driving-refuses, reaching}
use Rattle.world_acts_sequencers.proofs.drivers.ask.Goals as goal

pub returns-in-Err : goal.returns-in-Err
returns-in-Err c =
    let why = c.in-Err.ensures in
    refused-here _ _ _ (Ask c.args.name.now c.args.how) c.in-Err.fatal c.args.place c.refused.ensures.act_result c.refused.ensures.services (λ script history m. ask-unreached script history _ c.args.name.now c.args.how c.in-Err.fatal (λ refusal. driving-refuses m c.requires c.args.name.now c.in-Err.fatal refusal (why refusal)))

pub returns-in_ok-open_at-in-Ok-Waits : goal.returns-in_ok-open_at-in-Ok-Waits
returns-in_ok-open_at-in-Ok-Waits c =
    let name = c.args.name.now in
    let how = c.args.how in
    let reached = c.in-Ok.reached in
    let found = c.in-Ok.ensures in
    let asks : ChangesAt reached.sequencer (asked_at (record { who = c.args.services.now.answer.performer; name = name; phase = c.args.services.now.answer.phase }) how c.in-Ok-Waits.field-0) c.args.services.now.arbiters c.ask_at.new.arbiters = c.in-Ok-Waits.ensures.after in
    let value = rw c.in-Ok-Waits.field-0-is at c.in-Ok-Waits.ensures.value in
    let after = rw c.in-Ok-Waits.field-0-is at asks in
    let opened = c.in_ok-open_at-in-Ok-Waits.ensures in
    rw (c.waiting.ensures.act_result, c.waiting.ensures.services) (record {
      comes = λ script history s.
          let r = reaching name reached s c.requires c.path_order_is_in_order.ensures found in
          ask-waits script history _ name reached.sequencer r _ (s.known.arbitrating.arbiters_are.each reached.sequencer) found.2 how (rw s.known.sequencing.started at (sym value));
      kept = record {
        same_answer = refl;
        with_entry = λ script history s.
            let r = reaching name reached s c.requires c.path_order_is_in_order.ensures found in
            asked-goes s name reached.sequencer r how c.ask_at.new.arbiters s.left (rw s.known.answer.phase at after) c.open_at.new.self opened.nodes (λ n. ap (λ (one : GrantIndex). known_at one n) opened.rest);
      };
    })

pub returns-in_ok-tell-in-Ok-Nothing : goal.returns-in_ok-tell-in-Ok-Nothing
returns-in_ok-tell-in-Ok-Nothing c =
    let services = c.args.services.now in
    let performer = services.answer.performer in
    let name = c.args.name.now in
    let how = c.args.how in
    let reached = c.in-Ok.reached in
    let found = c.in-Ok.ensures in
    let asks : ChangesAt reached.sequencer (asked_at (record { who = performer; name = name; phase = c.args.services.now.answer.phase }) how c.in-Ok-Nothing.field-0) services.arbiters c.ask_at.new.arbiters = c.in-Ok-Nothing.ensures.after in
    let value = rw c.in-Ok-Nothing.field-0-is at c.in-Ok-Nothing.ensures.value in
    let told = c.in_ok-tell-in-Ok-Nothing.ensures in
    let same = unchanged reached.sequencer services.arbiters c.ask_at.new.arbiters (rw c.in-Ok-Nothing.field-0-is at asks) in
    rw (c.waits.ensures, told.rest) (record {
      comes = λ script history s.
          let r = reaching name reached s c.requires c.path_order_is_in_order.ensures found in
          ask-none script history performer name reached.sequencer r _ (s.known.arbitrating.arbiters_are.each reached.sequencer) found.2 how (rw s.known.sequencing.started at (sym value));
      kept = record {
        same_answer = refl;
        with_entry = λ script history s.
            let m = with-arbiters c.ask_at.new.arbiters same s.known in
            let left = s.left in
            let dues = rw (m.answer.phase, m.time, ← s.place_is) at (told.dues (filter (is_open (delivered_causes history) (ended_of history) (finished_of history)) (scheduled_events script history)) m.agenda.are) in
            let events = events-told (λ phase. objections_of script phase history) (is_open (delivered_causes history) (ended_of history) (finished_of history)) (act_phase history) (now_of history) (caused_at (length history)) performer (call.NextItem name None) (scheduled_events script history) m.events in
            let agenda = agenda-event (Object performer) (Some (call.NextItem name None)) (now_of history) (act_phase history) (scheduled_events script history) (delivered_causes history) (ended_of history) (finished_of history) _ _ _ s.in_phase.unended (scene-open s (λ opens. cc)) m.agenda dues in
            search (rules, acted);
      };
    })

pub returns-in-Err-ask_at : goal.returns-in-Err-ask_at
returns-in-Err-ask_at c =
    let services = c.args.services.now in
    let name = c.args.name.now in
    let how = c.args.how in
    let reached = c.in-Ok.reached in
    let fatal = c.in-Err-ask_at.fatal in
    let found = c.in-Ok.ensures in
    let same = unchanged reached.sequencer services.arbiters c.ask_at.new.arbiters c.in-Err-ask_at.ensures.unchanged in
    let value = c.in-Err-ask_at.ensures.value in
    refused-still c.refused-in-Err-ask_at.result services c.refused-in-Err-ask_at.new.services c.ask_at.new.arbiters (Ask name how) fatal c.args.place same c.refused-in-Err-ask_at.ensures.act_result c.refused-in-Err-ask_at.ensures.services (λ script history s.
    let r = reaching name reached s c.requires c.path_order_is_in_order.ensures found in
    ask-refused script history _ name reached.sequencer r _ (s.known.arbitrating.arbiters_are.each reached.sequencer) found.2 how fatal (rw s.known.sequencing.started at (sym value)))
