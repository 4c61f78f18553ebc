use Rattle.world_acts_tree.proofs.Common.{length, ◌≡◌, Some, refl, ◌∙◌, filter, rules, path_text, config_answer, path_at, node_of, settings_of, finished_of, caused_at, scheduled_events, delivered_causes, is_open, act_phase, now_of, nodes_of, ended_of, value-found, scene-open, acted, agenda-event, events-told, Object, objections_of}
use Rattle.uvm_acts.specs.declared.acts.Call.TheVariants as call
use Rattle.world_acts_tree.proofs.fields.get_field.Goals as goal

pub returns : goal.returns
returns c =
    let told = c.in_ok-tell.ensures in
    let value = c.value_at-value.result in
    rw (c.value.ensures, told.rest) (record {
      comes = λ script history s.
          let m = s.known in
          let found : value ≡ config_answer (settings_of script history) (path_text (path_at (nodes_of history) (node_of c.args.services.now.answer.performer))) c.args.field = rw (← m.tree) (c.value_at-value.ensures ∙ rw c.node-node.ensures (value-found _ c.args.field m.settings)) in
          rw found refl;
      kept = record {
        same_answer = refl;
        with_entry = λ script history s.
            let m = s.known in
            let left = s.left in
            let dues = rw (m.answer.phase, m.time, ← s.place_is) at (told.dues (filter (is_open (delivered_causes history) (ended_of history) (finished_of history)) (scheduled_events script history)) m.agenda.are) in
            let events = events-told (λ phase. objections_of script phase history) (is_open (delivered_causes history) (ended_of history) (finished_of history)) (act_phase history) (now_of history) (caused_at (length history)) c.args.services.now.answer.performer (call.Config c.args.field value) (scheduled_events script history) m.events in
            let agenda = agenda-event (Object c.args.services.now.answer.performer) (Some (call.Config c.args.field value)) (now_of history) (act_phase history) (scheduled_events script history) (delivered_causes history) (ended_of history) (finished_of history) _ _ _ s.in_phase.unended (scene-open s (λ opens. cc)) m.agenda dues in
            search (rules, acted);
      };
    })
