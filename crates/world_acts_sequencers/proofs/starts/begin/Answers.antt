use Rattle.world_acts_sequencers.proofs.Common.{◌≡◌, ◌∷◌, suc, length, filter, Some, refl, ap, ◌∙◌, add-one, rules, Sequence, Did, Started, Object, caused_at, scheduled_events, due_events, delivered_causes, is_open, act_phase, ended_of, nodes_of, now_of, objections_of, starts_of, finished_of, sequences_of, start_by, AreEvents, IsSequencing, enders_of, IsAgenda, ok-not-err, arbitrating-begun, events-told, acted, agenda-event, Start}
use Rattle.uvm_acts.specs.declared.acts.Call.TheVariants.{PreStart}
use Rattle.world_acts_sequencers.proofs.Begun.{next-unfinished, scene-starts, sequencing-started, start-of, task-goes}
use Rattle.world_acts_sequencers.proofs.starts.begin.Goals as goal

pub unreachable-requires-in_default-schedule_call : goal.unreachable-requires-in_default-schedule_call
unreachable-requires-in_default-schedule_call c = ok-not-err c.schedule_call.result c.in_default-schedule_call.field-0 (c.schedule_call.ensures.memory c.requires.agenda_spare) c.in_default-schedule_call.is

pub returns-clause-kept : goal.returns-clause-kept
returns-clause-kept c =
    let services = c.args.services.now in
    let performer = services.answer.performer in
    let stored_act = c.args.act.now in
    let home = c.args.home.now in
    let next = suc (length services.sequences.started) in
    let id : c.in-Ok.id ≡ next = c.in-Ok.ensures.id ∙ add-one (length services.sequences.started) in
    rw c.schedule_call.ensures.rest (record {
      same_answer = refl;
      with_entry = λ script history s.
          let m = s.known in
          let left = s.left in
          let asked = rw m.tree at c.requires.home_is in
          let task = rw m.answer.phase at c.requires.task in
          let at : (start_by (nodes_of history) (sequences_of history) performer stored_act).home ≡ home = ap (λ (x : Start). x.home) (start-of (nodes_of history) (sequences_of history) performer stored_act home c.requires.starts asked) in
          let dues = rw (c.copy.ensures, id, m.answer.phase, m.time, ← s.place_is, c.in-Ok-new.ensures.ok) at (c.in-Ok-schedule_call.ensures.dues (filter (is_open (delivered_causes history) (ended_of history) (finished_of history)) (scheduled_events script history)) m.agenda.are) in
          let unfinished = next-unfinished m.sequencing next home refl in
          let agenda : IsAgenda (scheduled_events script (Did performer (Started next) stored_act ∷ history)) (delivered_causes history) (ended_of history) (finished_of history) (suc (length history)) c.schedule_call.new.services.agenda.dues = rw at (agenda-event (Object (Sequence home next)) (Some PreStart) (now_of history) (act_phase history) (scheduled_events script history) (delivered_causes history) (ended_of history) (finished_of history) (length history) _ _ s.in_phase.unended unfinished m.agenda dues) in
          let events : AreEvents (λ phase. objections_of script phase history) (due_events script (Did performer (Started next) stored_act ∷ history)) = rw at (events-told (λ phase. objections_of script phase history) (is_open (delivered_causes history) (ended_of history) (finished_of history)) (act_phase history) (now_of history) (caused_at (length history)) (Sequence home next) PreStart (scheduled_events script history) m.events) in
          let items = rw m.answer.phase at c.in-Ok-push.ensures.items in
          let goes = task-goes (ended_of history) (act_phase history) task s.in_phase.unended in
          let starter = scene-starts s c.requires.starts in
          let sequencing : IsSequencing (starts_of (Did performer (Started next) stored_act ∷ history)) (finished_of history) (ended_of history) (enders_of history) c.start_under.new.sequences c.push.new.start_records.items = sequencing-started m.sequencing (nodes_of history) performer stored_act home c.in-Ok.id (act_phase history) c.name_started-name.result c.priority_given-given.result c.start_under.new.sequences c.push.new.start_records.items c.requires.starts asked c.name_started-name.ensures c.priority_given-given.ensures c.in-Ok.ensures.started c.in-Ok.ensures.steps c.in-Ok.ensures.id items goes starter in
          let arbitrating = arbitrating-begun m.arbitrating c.starts_change_nothing.ensures (record { start = start_by (nodes_of history) (sequences_of history) performer stored_act; starter = performer; phase = act_phase history }) in
          search (rules, acted);
    })
