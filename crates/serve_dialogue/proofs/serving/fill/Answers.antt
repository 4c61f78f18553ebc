use Rattle.serve_dialogue.proofs.Common.{◌≡◌, ◌∙◌, ap, inr, subst, sym, Some, option_copied, need_of, made_text, AreMarkedLines}
use Rattle.serve_dialogue.proofs.Asks.{answered_so, asked_by_need, memory_ran_out, need_marks}
use Rattle.serve_dialogue.proofs.Filled.{client_made}
use Rattle.serve_dialogue.proofs.serving.fill.Goals as goal

-- what was needed was asked and answered
pub returns-in_err-push_new-clause-err : goal.returns-in_err-push_new-clause-err
returns-in_err-push_new-clause-err g c =
    let stands : need_of c.args.core.now.standing ≡ Some c.in-Some.need.now = sym c.need.ensures ∙ ap option_copied c.in-Some.is in
    let bare = sym c.if-has_type.ensures in
    let asked = asked_by_need c.args.seats.now.answers c.args.core.now.standing c.args.core.now.script c.args.core.now.history _ _ c.in-Some.need.now stands c.requires.asked bare c.in_ok-push_need.ensures.text c.requires.backs in
    let marks = need_marks c.args.seats.now.answers c.args.core.now.standing c.args.core.now.script c.args.core.now.history _ c.in-Some.need.now stands c.requires.asked bare c.in_ok-push_need.ensures.marked c.requires.backs c.requires.marked in
    memory_ran_out c.from_residual-in_err-push_new.result _ c.from_residual-in_err-push_new.ensures.1 (
      λ going none. c.requires.room,
      inr (made_text c.in-Ok.made, answered_so g.C.Client.spoke g.met.C.Client.joined c.args.seats.now.answers c.args.core.now.script c.args.core.now.history _ _ _ _ _ asked c.in_ok-send.ensures.ok c.in-Ok.ensures.ok, marks),
    )

-- the client made it
pub returns-in_ok-push_new-clause-ok : goal.returns-in_ok-push_new-clause-ok
returns-in_ok-push_new-clause-ok g c =
    let stands : need_of c.args.core.now.standing ≡ Some c.in-Some.need.now = sym c.need.ensures ∙ ap option_copied c.in-Some.is in
    let bare = sym c.if-has_type.ensures in
    let asked = asked_by_need c.args.seats.now.answers c.args.core.now.standing c.args.core.now.script c.args.core.now.history _ _ c.in-Some.need.now stands c.requires.asked bare c.in_ok-push_need.ensures.text c.requires.backs in
    let marks = need_marks c.args.seats.now.answers c.args.core.now.standing c.args.core.now.script c.args.core.now.history _ c.in-Some.need.now stands c.requires.asked bare c.in_ok-push_need.ensures.marked c.requires.backs c.requires.marked in
    let left = rw c.in_ok-send.ensures.text at (c.in_ok-push_new.ensures.text) in
    client_made g.C.Client.spoke g.C.Client.ended g.C.Client.line c.args.seats.now.answers g.met.C.Client.joined c.args.core.now c.made-who-then-made.new.self c.args.client.now c.send.new.client c.read_made.new.self c.push_need.new.text.items
    c.push_new.new.text.items c.in-Some.need.now c.made-who-then-made.result (sym c.requires.asked ∙ stands) bare c.made-who-then-made.ensures.who c.made-who-then-made.ensures.entry asked marks c.in_ok-send.ensures.ok c.send.ensures.count
    (rw c.if-made.true at (c.in-Ok.ensures.ok)) c.read_made.ensures.count left (subst AreMarkedLines (sym left) c.in_ok-push_new.ensures.marked)
