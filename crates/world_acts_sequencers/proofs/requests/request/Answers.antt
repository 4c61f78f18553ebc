use Rattle.world_acts_sequencers.proofs.Common.{◌≡◌, false, Some, None, option_and_then, refl, sym, ◌∙◌, rules, is_none_at_all, item_refusal, request_refusal, home_sequencer, id_in, sequence_in, OutOfRange, acted, refused-act_result, said, Request}
use Rattle.world_acts_sequencers.proofs.Seated.{request-kept, refused-all, request-in, request-out, seated, unchanged, when-done}
use Rattle.world_acts_sequencers.proofs.requests.request.Goals as goal

pub returns-in-None : goal.returns-in-None
returns-in-None c =
    let services = c.args.services.now in
    let performer = services.answer.performer in
    let id = c.in-Some.id in
    let home = c.node-home.result in
    let is : sequence_in performer ≡ Some id = sym c.sequence_in.ensures ∙ c.in-Some.is in
    let given : is_none_at_all c.args.priority ≡ false = sym c.is_none_at_all.ensures ∙ c.if-is_none_at_all.false in
    let value = rw c.in-None.is at c.in_ok-request_at.ensures.value in
    let after = rw c.in-None.is at c.in_ok-request_at.ensures.after in
    when-done c.contested.result _ c.contested.ensures.act_result c.contested.ensures.services (λ did place. rw did.rest (record {
      comes = λ script history s.
          let seat = seated s id home (λ opens. cc) c.path_order_is_in_order.ensures is c.node-home.ensures in
          let none : option_and_then (item_refusal (id_in performer)) (home_sequencer history performer) ≡ None = rw seat.performer_is (sym (said s.known home (item_refusal id)) ∙ sym value) in
          let allows : request_refusal c.args.priority (option_and_then (item_refusal (id_in performer)) (home_sequencer history performer)) ≡ None = request-in c.args.priority _ given ∙ none in
          rw allows refl;
      kept = record {
        same_answer = refl;
        with_entry = λ script history s.
            let m = s.known in
            let left = s.left in
            let seat = seated s id home (λ opens. cc) c.path_order_is_in_order.ensures is c.node-home.ensures in
            let asked = rw (c.request_priority-priority.ensures.value, m.sequencing.started) at after in
            let arbitrating = request-kept s id home seat c.args.priority c.request_at.new.arbiters asked c.passed_stays.ensures c.contested.new.services.grant_index did.nodes did.knows in
            search (rules, acted);
      };
    }))

pub returns-in-Some-2 : goal.returns-in-Some-2
returns-in-Some-2 c =
    let services = c.args.services.now in
    let performer = services.answer.performer in
    let id = c.in-Some.id in
    let home = c.node-home.result in
    let fatal = c.in-Some-2.fatal in
    let is : sequence_in performer ≡ Some id = sym c.sequence_in.ensures ∙ c.in-Some.is in
    let given : is_none_at_all c.args.priority ≡ false = sym c.is_none_at_all.ensures ∙ c.if-is_none_at_all.false in
    let value = rw c.in-Some-2.is at c.in_ok-request_at.ensures.value in
    let after = rw c.in-Some-2.is at c.in_ok-request_at.ensures.after in
    refused-all c.refused-in-Some-2.result services c.refused-in-Some-2.new.services c.request_at.new.arbiters (Request c.args.priority) fatal (unchanged home services.arbiters c.request_at.new.arbiters after) c.refused-in-Some-2.ensures.act_result c.refused-in-Some-2.ensures.services (λ script history place s.
    let seat = seated s id home (λ opens. cc) c.path_order_is_in_order.ensures is c.node-home.ensures in
    let why : option_and_then (item_refusal (id_in performer)) (home_sequencer history performer) ≡ Some fatal = rw seat.performer_is (sym (said s.known home (item_refusal id)) ∙ sym value) in
    let refuses : request_refusal c.args.priority (option_and_then (item_refusal (id_in performer)) (home_sequencer history performer)) ≡ Some fatal = request-in c.args.priority _ given ∙ why in
    rw refuses refl)

pub returns-then-is_none_at_all : goal.returns-then-is_none_at_all
returns-then-is_none_at_all c =
    let performer = c.args.services.now.answer.performer in
    refused-act_result _ _ _ (Request c.args.priority) OutOfRange c.refused.ensures.act_result c.refused.ensures.services (λ script history m.
    let out = request-out c.args.priority (option_and_then (item_refusal (id_in performer)) (home_sequencer history performer)) (sym c.is_none_at_all.ensures ∙ c.if-is_none_at_all.true) in
    rw out refl)
