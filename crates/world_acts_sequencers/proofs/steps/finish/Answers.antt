use Rattle.world_acts_sequencers.proofs.Common.{◌≡◌, ◌++◌, ◌∷◌, [], ℕ, Option, Some, None, not, filter, nat_eq, option_and_then, Result, Ok, Err, refl, subst, ◌∙◌, get, in_order, SequencesValue, name_at, node_of, grant_of, is_try, is_of_one, start_record_at, is_told, living_numbered, ArbiterValue, finished_calls, lapsed_calls, lapsed_item, OnOk}
use Rattle.world_acts_sequencers.proofs.steps.finish.Goals as goal

on-ok : {T E : Type 0} (result : Result T E) {P Q : Type 0} → (P → Q) → OnOk result P → OnOk result Q
on-ok (Ok value) f p = f p
on-ok (Err fault) f p = tt

lapse-known : (id : ℕ) (o : Option ArbiterValue) → lapsed_item (is_try (option_and_then (λ a. grant_of id a.sequencer.driver) o)) (option_and_then (λ a. a.driver) o) ≡ lapsed_calls o id
lapse-known id None = refl
lapse-known id (Some a) = refl

pub returns : goal.returns
returns c =
    let services = c.args.services.now in
    let id = c.args.id in
    let node = c.node-home.result in
    let lapse : lapsed_item c.leave_at-lapses.result c.driver_at-driver.result ≡ lapsed_calls (get nat_eq services.arbiters node) id =
    rw (c.leave_at-lapses.ensures.value, c.driver_at-driver.ensures) (lapse-known id (get nat_eq services.arbiters node)) in
    let calls = c.as_slice.ensures.value ∙ c.in_ok-calls.ensures in
    let home = c.node-home.ensures in
    on-ok c.tell_living.result (λ told. record {
      dues = λ caused are. subst (λ (s : SequencesValue). c.tell_living.new.services.agenda.dues ≡ in_order (living_numbered (is_told s.steps) services.time c.args.place 0
          (finished_calls (start_record_at services.start_records.items id) (name_at s.started id) id ++ lapsed_calls (get nat_eq services.arbiters (node_of services.answer.performer)) id)
          ++ filter (λ event. not (is_of_one (services.answer.performer ∷ []) event.owner)) caused)) c.finish.ensures
          (rw (calls, lapse, home) at (told (filter (λ event. not (is_of_one (services.answer.performer ∷ []) event.owner)) caused) (c.cancel.ensures caused are)));
      arbiters = rw c.tell_living.ensures.rest (rw home at c.leave_at-lapses.ensures.after);
      rest = rw (c.tell_living.ensures.rest, c.finish.ensures) refl;
      nodes = rw c.tell_living.ensures.rest (rw (c.learn.ensures.nodes, ← home) c.in_ok-open_at.ensures.nodes);
      learns = rw (c.tell_living.ensures.rest, ← home) (rw c.in_ok-open_at.ensures.rest at c.learn.ensures.known);
    }) c.tell_living.ensures.dues
