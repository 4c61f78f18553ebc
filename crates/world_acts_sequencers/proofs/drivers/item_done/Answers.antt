use Rattle.world_acts_sequencers.proofs.Common.{◌≡◌, ◌∷◌, [], length, filter, List, All, Option, subst, ap, sym, ◌∙◌, refl, rules, Phase, Sequence, DueCall, ItemDone, Done, finished_of, calls_caused, scheduled_events, delivered_causes, is_open, call_in, ended_of, now_of, objections_of, GrantIndex, known_at, is_told, acted, refused-here, IsToldOpen, agenda-living, events-calls}
use Rattle.uvm_acts.specs.declared.acts.Call.TheVariants as call
use Rattle.world_acts_sequencers.proofs.Seated.{refused-still, unchanged}
use Rattle.world_acts_sequencers.proofs.Driven.{done-calls, done-comes, done-kept, done-refused, done-told, done-unreached, driving-refuses, hand-known, hand-phase, reaching}
use Rattle.world_acts_sequencers.proofs.drivers.item_done.Goals as goal

pub returns-in-Err : goal.returns-in-Err
returns-in-Err c =
    let why = c.in-Err.ensures in
    refused-here _ _ _ (ItemDone c.args.name.now c.args.response) c.in-Err.fatal c.args.place c.refused.ensures.act_result c.refused.ensures.services (λ script history m. done-unreached script history _ c.args.name.now c.args.response c.in-Err.fatal (λ refusal. driving-refuses m c.requires c.args.name.now c.in-Err.fatal refusal (why refusal)))

pub returns-in_ok-tell_living-in-Ok-done_at : goal.returns-in_ok-tell_living-in-Ok-done_at
returns-in_ok-tell_living-in-Ok-done_at c =
    let services = c.args.services.now in
    let performer = services.answer.performer in
    let name = c.args.name.now in
    let response = c.args.response in
    let reached = c.in-Ok.reached in
    let id = c.in-Ok-done_at.id in
    let found = c.in-Ok.ensures in
    let told = c.in_ok-tell_living-in-Ok-done_at.ensures in
    let opened = c.in_ok-open_at-in-Ok-done_at.ensures in
    rw (c.done.ensures.act_result, c.done.ensures.services, told.rest) (record {
      comes = λ script history s.
          let r = reaching name reached s c.requires c.path_order_is_in_order.ensures found in
          done-comes script history performer name reached.sequencer r _ (s.known.arbitrating.arbiters_are.each reached.sequencer) found.2 response id c.in-Ok-done_at.ensures.ok;
      kept = record {
        same_answer = refl;
        with_entry = λ script history s.
            let m = s.known in
            let left = s.left in
            let r = reaching name reached s c.requires c.path_order_is_in_order.ensures found in
            let hand = hand-known script history performer name reached.sequencer r _ (m.arbitrating.arbiters_are.each reached.sequencer) found.2 id c.in-Ok-done_at.ensures.ok in
            let arbitrating = done-kept s name reached.sequencer r response c.done_at.new.arbiters c.in-Ok-done_at.ensures.after c.open_at.new.self opened.nodes (λ n. ap (λ (one : GrantIndex). known_at one n) opened.rest) in
            let phase = (rw c.as_slice.ensures.value at c.phase_at-phase.ensures) ∙ hand-phase m.sequencing reached.sequencer id (s.driving.hands reached.sequencer id hand) in
            let is = done-calls s name reached.sequencer r response id hand in
            let calls : c.as_slice-in-Ok-done_at.result.now ≡ calls_caused history performer Done (ItemDone name response) = c.as_slice-in-Ok-done_at.ensures.value ∙ c.in_ok-calls-in-Ok-done_at.ensures ∙ ap (λ (phase : Option Phase). call_in phase (Sequence reached.sequencer id) (call.ItemDone response) ∷ []) phase ∙ sym is in
            let told_living = subst (λ (calls : List DueCall). All (IsToldOpen (is_told services.sequences.steps) (ended_of history) (finished_of history)) calls) (sym is) (done-told s name reached.sequencer r response id hand) in
            let dues = rw (m.time, ← s.place_is, calls) at (told.dues (filter (is_open (delivered_causes history) (ended_of history) (finished_of history)) (scheduled_events script history)) m.agenda.are) in
            let events = events-calls (λ phase. objections_of script phase history) (is_open (delivered_causes history) (ended_of history) (finished_of history)) (now_of history) (length history) 0 (calls_caused history performer Done (ItemDone name response)) (scheduled_events script history) m.events in
            let agenda = agenda-living (is_told services.sequences.steps) (delivered_causes history) (ended_of history) (finished_of history) (now_of history) (calls_caused history performer Done (ItemDone name response)) (scheduled_events script history) (length history) _ _ told_living m.agenda dues in
            search (rules, acted);
      };
    })

pub returns-in-Err-done_at : goal.returns-in-Err-done_at
returns-in-Err-done_at c =
    let services = c.args.services.now in
    let name = c.args.name.now in
    let response = c.args.response in
    let reached = c.in-Ok.reached in
    let fatal = c.in-Err-done_at.fatal in
    let found = c.in-Ok.ensures in
    let same = unchanged reached.sequencer services.arbiters c.done_at.new.arbiters c.in-Err-done_at.ensures.unchanged in
    refused-still c.refused-in-Err-done_at.result services c.refused-in-Err-done_at.new.services c.done_at.new.arbiters (ItemDone name response) fatal c.args.place same c.refused-in-Err-done_at.ensures.act_result c.refused-in-Err-done_at.ensures.services (λ script history s.
    let r = reaching name reached s c.requires c.path_order_is_in_order.ensures found in
    done-refused script history _ name reached.sequencer r _ (s.known.arbitrating.arbiters_are.each reached.sequencer) found.2 response fatal c.in-Err-done_at.ensures.err)
