use Rattle.script_objects.proofs.Common.{◌≡◌, ◌∙◌, All, List, ◌∷◌, ◌++◌, ◌+◌, arith, drop, inl, inr, map, ap, subst, sym, rules, common_steps, All-push, string, view, IsAlone, AnswerAct, Given, answer_act_data}
use Rattle.script_objects.proofs.FirstFaults.{first-line, text-is}
use Rattle.script_objects.proofs.reading.read_answer.Goals as goal

-- the texts before it are those of the actions that were read
pub returns-in-Err-clause-err : goal.returns-in-Err-clause-err
returns-in-Err-clause-err c =
    let kept = c.loop-value.invariant in
    let text : view c.value-item.result ≡ string c.in-Some.line.now = text-is (view c.value-item.result) c.in-Some.line.now (search (rules, c.as_str.ensures)) in
    let left : map answer_act_data c.loop-value.answer_acts.items ++ view c.value-item.result ∷ map view (drop (c.loop-value.value-index + 1) c.args.lines.now) ≡ map view c.args.lines.now =
    grind (arith, common_steps, c.loop-value.invariant.read, c.value-item.is) in
    elim c.in-Err.ensures.err [
      | inl none ↦ inl none
      | inr bad ↦ inr (first-line c.args.has_item c.loop-value.answer_acts.items (view c.value-item.result) (map view (drop (c.loop-value.value-index + 1) c.args.lines.now)) (map view c.args.lines.now) c.in-Some.line.now c.in-Err.fault kept.alone kept.given text left bad)
    ]

-- one more act was read
pub loop-value-preserved : goal.loop-value-preserved
loop-value-preserved c =
    let kept = c.loop-value.invariant in
    let text : view c.value-item.result ≡ string c.in-Some.line.now = text-is (view c.value-item.result) c.in-Some.line.now (search (rules, c.as_str.ensures)) in
    let said : answer_act_data c.in-Ok.answer_act ≡ view c.value-item.result = ap string c.in-Ok.ensures.line ∙ sym text in
    record {
      read = grind (arith, common_steps, c.in-Ok-push.ensures.items, said, c.loop-value.invariant.read, c.value-item.is);
      alone = subst (λ (items : List AnswerAct). All IsAlone items) (sym c.in-Ok-push.ensures.items) (All-push IsAlone c.loop-value.answer_acts.items c.in-Ok.answer_act kept.alone c.in-Ok.ensures.alone);
      given = subst (λ (items : List AnswerAct). All (Given c.args.has_item) items) (sym c.in-Ok-push.ensures.items) (All-push (Given c.args.has_item) c.loop-value.answer_acts.items c.in-Ok.answer_act kept.given c.in-Ok.ensures.given);
    }
