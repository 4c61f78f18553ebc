use Rattle.script_answers.proofs.Common.{◌∙◌, List, ℕ, ◌++◌, sym, ap, codes}
use Rattle.script_answers.proofs.Refusals.{starred}
use Rattle.script_answers.proofs.answer_acts.passing_of.Goals as goal

pub returns-clause-none : goal.returns-clause-none
returns-clause-none c =
    let cases = c.in_ok-strip_suffix.ensures.cases in
    starred c.args.line.now c.in_ok-strip_suffix.field-0.now c.forward_act_of.result
    (cases.1.1 ∙ ap (λ (front : List ℕ). front ++ codes " *") (sym cases.2)) c.forward_act_of.ensures.none
