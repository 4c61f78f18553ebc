use Rattle.world_acts_sequencers.proofs.Common.{◌≡◌, ◌∷◌, suc, nat_eq, IsSome, ap, length, filter, Some, None, option_and_then, refl, sym, ◌∙◌, rules, get, finished, step_after, step_at, node_of, mode_at, lapsed_calls, numbered-holds, EndStep, Did, Done, Finished, Object, caused_at, scheduled_events, due_events, delivered_causes, is_open, step_call, act_phase, ended_of, now_of, objections_of, StartRecord, starts_of, finished_of, next_step, sequence_in, AreEvents, IsAgenda, answer-finished, events-told, acted, scene-open, sequencing-finished, sequencing-step, agenda-event}
use Rattle.uvm_acts.specs.declared.acts.Who.TheVariants as who
use Rattle.world_acts_sequencers.proofs.Driven.{finish-kept, lapsed-known, lapsed-told}
use Rattle.world_acts_sequencers.proofs.Seated.{placed}
use Rattle.world_acts_sequencers.proofs.Finished.{has-finished, scene-begun}
use Rattle.world_acts_sequencers.proofs.Stepped.{next-known}
use Rattle.world_acts_sequencers.proofs.steps.end_step.Goals as goal

pub returns-in_ok-tell-in-Some-step : goal.returns-in_ok-tell-in-Some-step
returns-in_ok-tell-in-Some-step c =
    let told = c.in_ok-tell-in-Some-step.ensures in
    let services = c.args.services.now in
    let performer = services.answer.performer in
    let id = c.in-Some.id in
    let step = c.in-Some-step.step in
    let is : sequence_in performer ≡ Some id = sym c.sequence_in.ensures ∙ c.in-Some.is in
    let steps : option_and_then step_after (step_at services.sequences.steps id) ≡ Some step = sym c.step.ensures.value ∙ c.in-Some-step.is in
    rw (c.done.ensures.act_result, c.done.ensures.services, told.rest, c.in-Some-step.ensures.after) (record {
      comes = λ script history s.
          let next : next_step history performer ≡ Some step = sym (next-known s.known performer id is) ∙ steps in
          rw next refl;
      kept = record {
        same_answer = refl;
        with_entry = λ script history s.
            let m = s.known in
            let left = s.left in
            let next : next_step history performer ≡ Some step = sym (next-known m performer id is) ∙ steps in
            let dues = rw (m.answer.phase, m.time, ← s.place_is, c.step_call.ensures) at (told.dues (filter (is_open (delivered_causes history) (ended_of history) (finished_of history)) (scheduled_events script history)) m.agenda.are) in
            let events : AreEvents (λ phase. objections_of script phase history) (due_events script (Did performer Done EndStep ∷ history)) = rw next (events-told (λ phase. objections_of script phase history) (is_open (delivered_causes history) (ended_of history) (finished_of history)) (act_phase history) (now_of history) (caused_at (length history)) performer (step_call step) (scheduled_events script history) m.events) in
            let agenda : IsAgenda (scheduled_events script (Did performer Done EndStep ∷ history)) (delivered_causes history) (ended_of history) (finished_of history) (suc (length history)) c.tell.new.services.agenda.dues = rw next (agenda-event (Object performer) (Some (step_call step)) (now_of history) (act_phase history) (scheduled_events script history) (delivered_causes history) (ended_of history) (finished_of history) (length history) _ _ s.in_phase.unended (scene-open s (λ opens. cc)) m.agenda dues) in
            let sequencing = sequencing-step m.sequencing c.steps_change_alone.ensures performer id step is steps in
            search (rules, acted);
      };
    })

pub returns-in_ok-finish-in-None : goal.returns-in_ok-finish-in-None
returns-in_ok-finish-in-None c =
    let fin = c.in_ok-finish-in-None.ensures in
    let services = c.args.services.now in
    let performer = services.answer.performer in
    let id = c.in-Some.id in
    let is : sequence_in performer ≡ Some id = sym c.sequence_in.ensures ∙ c.in-Some.is in
    let steps : option_and_then step_after (step_at services.sequences.steps id) ≡ None = sym c.step.ensures.value ∙ c.in-None.is in
    rw (c.finished.ensures, fin.rest, c.in-None.ensures.after) (record {
      comes = λ script history s.
          let next : next_step history performer ≡ None = sym (next-known s.known performer id is) ∙ steps in
          rw next refl;
      kept = record {
        same_answer = refl;
        with_entry = λ script history s.
            let m = s.known in
            let left = s.left in
            let b = scene-begun id s (λ opens. cc) is in
            let moded = numbered-holds (λ (one : StartRecord). IsSome (mode_at history one.start.home)) (starts_of history) id b.start_record s.driving.homes b.found in
            let there = placed s b.start_record.start.home c.path_order_is_in_order.ensures moded in
            let home : node_of performer ≡ b.start_record.start.home = ap node_of b.performer_is in
            let dues = rw (c.in-None.ensures.after, m.time, ← s.place_is, b.performer_is) at (fin.dues (filter (is_open (delivered_causes history) (ended_of history) (finished_of history)) (scheduled_events script history)) m.agenda.are) in
            let lapse = lapsed_calls (get nat_eq services.arbiters b.start_record.start.home) id in
            let h = rw (← b.performer_is) at (has-finished m c.steps_change_alone.ensures id b.start_record b.found b.lives lapse (lapsed-known s id b.start_record b.found b.lives moded there) c.finish.new.services.agenda.dues (lapsed-told s id b.start_record b.found b.lives moded there (who.Sequence b.start_record.start.home id ∷ finished_of history) (finished id services.sequences).steps) dues) in
            let left_there = rw home at fin.arbiters in
            let arbitrating = rw (← b.performer_is) at (finish-kept s id b.start_record b.found b.lives moded there c.finish.new.services.arbiters left_there c.finish.new.services.grant_index (rw home at fin.nodes) (rw home at fin.learns)) in
            let agenda = h.agenda in
            let events = h.events in
            let sequencing = rw (← b.performer_is) at (sequencing-finished m.sequencing c.steps_change_alone.ensures id b.start_record b.found b.lives) in
            let answer = answer-finished {entry = Did performer Finished EndStep} left m.answer in
            search (rules, acted);
      };
    })
