use Rattle.world_acts_sequencers.proofs.Common.{◌≡◌, length, filter, Option, Some, None, option_and_then, refl, ap, sym, ◌∙◌, rules, Send, Done, NotGranted, Phase, DriverPort, calls_of_send, calls_caused, scheduled_events, delivered_causes, is_open, act_phase, ended_of, now_of, objections_of, send_refusal, finished_of, sequence_in, home_sequencer, id_in, Services, known_at, is_told, acted, scene-open, agenda-living, events-calls}
use Rattle.world_acts_sequencers.proofs.Seated.{driver-known, granted-known, refused-still, seated, send-allowed, send-kept, send-refused, sends-told, sent-calls, unchanged, when-done}
use Rattle.world_acts_sequencers.proofs.requests.send.Goals as goal

pub returns-in-None : goal.returns-in-None
returns-in-None c =
    let services = c.args.services.now in
    let performer = services.answer.performer in
    let id = c.in-Some.id in
    let home = c.node-home.result in
    let is : sequence_in performer ≡ Some id = sym c.sequence_in.ensures ∙ c.in-Some.is in
    let value = rw c.in-None.is at c.send_at.ensures.value in
    let after = rw c.in-None.is at c.send_at.ensures.after in
    refused-still c.refused.result services c.refused.new.services c.send_at.new.arbiters (Send c.args.item) NotGranted c.args.place (unchanged home services.arbiters c.send_at.new.arbiters after) c.refused.ensures.act_result c.refused.ensures.services (λ script history s.
    let seat = seated s id home (λ opens. cc) c.path_order_is_in_order.ensures is c.node-home.ensures in
    let refuses : option_and_then (send_refusal (id_in performer)) (home_sequencer history performer) ≡ Some NotGranted = rw seat.performer_is (send-refused s.known id home seat.moded (sym value)) in
    rw refuses refl)

pub returns-in_ok-tell_living-in-Some-send_at : goal.returns-in_ok-tell_living-in-Some-send_at
returns-in_ok-tell_living-in-Some-send_at c =
    let services = c.args.services.now in
    let performer = services.answer.performer in
    let id = c.in-Some.id in
    let home = c.node-home.result in
    let way = c.in-Some-send_at.how in
    let item = c.args.item in
    let is : sequence_in performer ≡ Some id = sym c.sequence_in.ensures ∙ c.in-Some.is in
    let value = rw c.in-Some-send_at.is at c.send_at.ensures.value in
    let after = rw c.in-Some-send_at.is at c.send_at.ensures.after in
    let told = c.in_ok-tell_living-in-Some-send_at.ensures in
    when-done c.contested.result _ c.contested.ensures.act_result c.contested.ensures.services (λ did. rw (did.rest, told.rest) (record {
      comes = λ script history s.
          let seat = seated s id home (λ opens. cc) c.path_order_is_in_order.ensures is c.node-home.ensures in
          let allows : option_and_then (send_refusal (id_in performer)) (home_sequencer history performer) ≡ None = rw seat.performer_is (send-allowed s.known id home way (sym value)) in
          rw allows refl;
      kept = record {
        same_answer = refl;
        with_entry = λ script history s.
            let m = s.known in
            let left = s.left in
            let seat = seated s id home (λ opens. cc) c.path_order_is_in_order.ensures is c.node-home.ensures in
            let granted = granted-known m id home way (sym value) in
            let arbitrating = send-kept s id home seat item way c.send_at.new.arbiters granted after c.contested.new.services.grant_index did.nodes (λ n. did.knows n ∙ ap (λ (one : Services). known_at one.grant_index n) told.rest) in
            let calls : c.as_slice.result.now ≡ calls_caused history performer Done (Send item) = c.as_slice.ensures.value ∙ c.in_ok-calls-in-Some-send_at.ensures ∙ ap (λ (phase : Option Phase). calls_of_send phase performer c.driver_at-driver.result item (Some way)) m.answer.phase ∙ ap (λ (driver : Option DriverPort). calls_of_send (act_phase history) performer driver item (Some way)) (c.driver_at-driver.ensures ∙ driver-known m id home seat.moded) ∙ sym (sent-calls history performer id home item way seat.performer_is granted) in
            let told_living = rw (← sent-calls history performer id home item way seat.performer_is granted) at (sends-told s id home seat item way granted (scene-open s (λ opens. cc))) in
            let dues = rw (m.time, ← s.place_is, calls) at (told.dues (filter (is_open (delivered_causes history) (ended_of history) (finished_of history)) (scheduled_events script history)) m.agenda.are) in
            let events = events-calls (λ phase. objections_of script phase history) (is_open (delivered_causes history) (ended_of history) (finished_of history)) (now_of history) (length history) 0 (calls_caused history performer Done (Send item)) (scheduled_events script history) m.events in
            let agenda = agenda-living (is_told services.sequences.steps) (delivered_causes history) (ended_of history) (finished_of history) (now_of history) (calls_caused history performer Done (Send item)) (scheduled_events script history) (length history) _ _ told_living m.agenda dues in
            search (rules, acted);
      };
    }))
