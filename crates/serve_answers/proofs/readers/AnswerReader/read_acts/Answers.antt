use Rattle.std.proofs.Common.{arith, length-append, ap, ◌∙◌, ◌+◌, rules, ◌∷◌, [], length}
use Rattle.serve_answers.specs.Answers.{IsTellingAct}
use Rattle.serve_answers.proofs.Stops.{given, no_memory, one_more, too_many}
use Rattle.serve_answers.proofs.readers.AnswerReader.read_acts.Goals as goal

pub returns-in_default-push-clause-err : goal.returns-in_default-push-clause-err
returns-in_default-push-clause-err g c =
    no_memory _ _ c.loop-place.acts c.in-Some.act _ _ _ _ _ _ c.out_of_memory.ensures c.loop-place.invariant.alone (omega (arith, c.loop-place.invariant.many))
    c.loop-place.invariant.gone c.loop-place.invariant.count (given _ _ c.in-Some.act c.in-Some.is c.in_ok-act.ensures.act) c.next_act.ensures.count

pub loop-place-preserved : goal.loop-place-preserved
loop-place-preserved g c =
    let more = one_more c.loop-place.acts c.push.new.self c.in-Some.act _ _ _ _ _ _ c.in-Ok.ensures.ok c.loop-place.invariant.alone c.loop-place.invariant.gone c.loop-place.invariant.count
    (given IsTellingAct _ c.in-Some.act c.in-Some.is c.in_ok-act.ensures.alone) (given _ _ c.in-Some.act c.in-Some.is c.in_ok-act.ensures.act) c.next_act.ensures.count in
    record {
      alone = more.alone;
      many = ap length c.in-Ok.ensures.ok ∙ (length-append c.loop-place.acts (c.in-Some.act ∷ []) ∙ ap (λ n. n + 1) c.loop-place.invariant.many);
      gone = more.gone;
      count = more.line;
    }

pub returns-clause-err : goal.returns-clause-err
returns-clause-err g c =
    too_many _ c.loop-place.acts c.in_ok-next_act.field-0 _ _ _ _ _ _ (search rules) c.loop-place.invariant.alone (omega (arith, c.loop-place.invariant.many))
    c.loop-place.invariant.gone c.loop-place.invariant.count c.in_ok-next_act.ensures.alone c.in_ok-next_act.ensures.act c.next_act-2.ensures.count
