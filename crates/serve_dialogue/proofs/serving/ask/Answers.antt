use Rattle.serve_dialogue.proofs.Common.{◌≡◌, ◌∙◌, None, inr, subst, sym, answer_text, acts_by, object_of, scripted_of, said, IsViolation}
use Rattle.bench_history.specs.Cases as next
use Rattle.serve_dialogue.proofs.Asks.{answered_so, asked_by_call, call_marks, client_call, if_memory, if_ok, none_mapped}
use Rattle.serve_dialogue.proofs.Filled.{client_answered}
use Rattle.serve_dialogue.proofs.serving.ask.Goals as goal

-- the client was asked in vain
pub returns-in-Err-clause-err : goal.returns-in-Err-clause-err
returns-in-Err-clause-err g c =
    let answers = c.args.seats.now.answers in
    let core = c.args.core.now in
    let asks = c.requires.asked in
    let bare : scripted_of answers core.script core.history c.args.who.now ≡ None =
    sym (c.requires.seated c.args.who.now) ∙ none_mapped (acts_by c.in-Some.call.now) (object_of c.args.seats.now c.args.who.now) (sym c.in_ok-acts.ensures.acts ∙ c.in_default-2.is) in
    let asked = asked_by_call answers core.standing core.script core.history c.args.who.now asks.call asks.origin _ _ asks.stands asks.comes bare c.in_ok-push_ask.ensures.text c.requires.backs in
    record {
      between = c.send.new.client;
      asked = subst (λ text. g.C.Client.spoke c.args.client.now c.send.new.client (said text)) asked c.in_ok-send.ensures.ok;
      marked = call_marks answers core.standing core.script core.history c.args.who.now asks.call asks.origin _ asks.stands asks.comes bare c.in_ok-push_ask.ensures.marked c.requires.backs c.requires.marked;
      line_stays = c.send.ensures.count;
      violation =
          subst (λ (comes : next.Next). IsViolation g.C.Client.spoke g.C.Client.ended g.C.Client.line answers comes c.in-Err.error c.send.new.client c.read_acts.new.self) (sym (client_call answers core.script core.history c.args.who.now asks.call asks.origin asks.comes bare))
          c.in-Err.ensures.err;
      number = c.in-Err.ensures.number;
    }

-- the client has answered
pub returns-clause-ok : goal.returns-clause-ok
returns-clause-ok g c =
    let answers = c.args.seats.now.answers in
    let core = c.args.core.now in
    let asks = c.requires.asked in
    let bare : scripted_of answers core.script core.history c.args.who.now ≡ None =
    sym (c.requires.seated c.args.who.now) ∙ none_mapped (acts_by c.in-Some.call.now) (object_of c.args.seats.now c.args.who.now) (sym c.in_ok-acts.ensures.acts ∙ c.in_default-2.is) in
    let asked = asked_by_call answers core.standing core.script core.history c.args.who.now asks.call asks.origin _ _ asks.stands asks.comes bare c.in_ok-push_ask.ensures.text c.requires.backs in
    let marks = call_marks answers core.standing core.script core.history c.args.who.now asks.call asks.origin _ asks.stands asks.comes bare c.in_ok-push_ask.ensures.marked c.requires.backs c.requires.marked in
    if_ok c.enter-2.result (λ grown.
    client_answered g.C.Client.spoke g.C.Client.ended g.C.Client.line answers g.met.C.Client.joined core c.enter-2.new.core c.args.client.now c.send.new.client c.read_acts.new.self c.push_ask.new.text.items c.send.new.text.items c.args.who.now asks.call
    asks.origin c.in-Ok.acts asks.stands asks.comes bare grown asked marks c.in_ok-send.ensures.ok c.send.ensures.count c.in-Ok.ensures.ok c.in-Ok.ensures.count c.in-Ok.ensures.told c.in_ok-send.ensures.text) c.enter-2.ensures.ok

-- or memory ran out then
pub returns-clause-err : goal.returns-clause-err
returns-clause-err g c =
    let answers = c.args.seats.now.answers in
    let core = c.args.core.now in
    let asks = c.requires.asked in
    let bare : scripted_of answers core.script core.history c.args.who.now ≡ None =
    sym (c.requires.seated c.args.who.now) ∙ none_mapped (acts_by c.in-Some.call.now) (object_of c.args.seats.now c.args.who.now) (sym c.in_ok-acts.ensures.acts ∙ c.in_default-2.is) in
    let asked = asked_by_call answers core.standing core.script core.history c.args.who.now asks.call asks.origin _ _ asks.stands asks.comes bare c.in_ok-push_ask.ensures.text c.requires.backs in
    let marks = call_marks answers core.standing core.script core.history c.args.who.now asks.call asks.origin _ asks.stands asks.comes bare c.in_ok-push_ask.ensures.marked c.requires.backs c.requires.marked in
    if_memory c.enter-2.result _ c.enter-2.ensures.err (
      λ going none. c.requires.room,
      inr (answer_text c.in-Ok.acts, answered_so g.C.Client.spoke g.met.C.Client.joined answers core.script core.history _ _ _ _ _ asked c.in_ok-send.ensures.ok c.in-Ok.ensures.ok, marks),
    )
