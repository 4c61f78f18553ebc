use Rattle.world_acts_sequencers.proofs.Common.{◌≡◌, Some, None, option_and_then, refl, sym, ◌∙◌, rules, Grab, lock_refusal, home_sequencer, id_in, sequence_in, acted, said}
use Rattle.world_acts_sequencers.proofs.Seated.{grab-kept, refused-all, seated, unchanged, when-done}
use Rattle.world_acts_sequencers.proofs.requests.grab.Goals as goal

pub returns-in-None : goal.returns-in-None
returns-in-None c =
    let services = c.args.services.now in
    let performer = services.answer.performer in
    let id = c.in-Some.id in
    let home = c.node-home.result in
    let is : sequence_in performer ≡ Some id = sym c.sequence_in.ensures ∙ c.in-Some.is in
    let value = rw c.in-None.is at c.in_ok-grab_for.ensures.value in
    let after = rw c.in-None.is at c.in_ok-grab_for.ensures.after in
    when-done c.contested_anew.result _ c.contested_anew.ensures.act_result c.contested_anew.ensures.services (λ did place. rw did.rest (record {
      comes = λ script history s.
          let seat = seated s id home (λ opens. cc) c.path_order_is_in_order.ensures is c.node-home.ensures in
          let allows : option_and_then (lock_refusal (id_in performer)) (home_sequencer history performer) ≡ None = rw seat.performer_is (sym (said s.known home (lock_refusal id)) ∙ sym value) in
          rw allows refl;
      kept = record {
        same_answer = refl;
        with_entry = λ script history s.
            let m = s.known in
            let left = s.left in
            let seat = seated s id home (λ opens. cc) c.path_order_is_in_order.ensures is c.node-home.ensures in
            let arbitrating = grab-kept s id home seat c.grab_for.new.arbiters after c.contested_anew.new.services.grant_index did.nodes did.learns in
            search (rules, acted);
      };
    }))

pub returns-in-Some-2 : goal.returns-in-Some-2
returns-in-Some-2 c =
    let services = c.args.services.now in
    let performer = services.answer.performer in
    let id = c.in-Some.id in
    let home = c.node-home.result in
    let fatal = c.in-Some-2.fatal in
    let is : sequence_in performer ≡ Some id = sym c.sequence_in.ensures ∙ c.in-Some.is in
    let value = rw c.in-Some-2.is at c.in_ok-grab_for.ensures.value in
    let after = rw c.in-Some-2.is at c.in_ok-grab_for.ensures.after in
    refused-all c.refused.result services c.refused.new.services c.grab_for.new.arbiters Grab fatal (unchanged home services.arbiters c.grab_for.new.arbiters after) c.refused.ensures.act_result c.refused.ensures.services (λ script history place s.
    let seat = seated s id home (λ opens. cc) c.path_order_is_in_order.ensures is c.node-home.ensures in
    let refuses : option_and_then (lock_refusal (id_in performer)) (home_sequencer history performer) ≡ Some fatal = rw seat.performer_is (sym (said s.known home (lock_refusal id)) ∙ sym value) in
    rw refuses refl)
