use Rattle.std.proofs.Common.{inr, refl}
use Rattle.serve_answers.proofs.NoLines.{no_act, no_passing, no_text}
use Rattle.serve_answers.proofs.actions.action_in.Goals as goal

pub returns-in_default-clause-err : goal.returns-in_default-clause-err
returns-in_default-clause-err c = inr (refl, no_text c.args.line.now c.lines_are_shown.ensures c.in_default.ensures.cases.0)

pub returns-in-Ok-Passes-clause-err : goal.returns-in-Ok-Passes-clause-err
returns-in-Ok-Passes-clause-err c =
    inr (
      refl,
      no_passing c.args.line.now c.in-Ok.text.now c.in-Ok-Passes.field-0 c.in-Ok-Passes.field-0-0 c.in-Ok.ensures.cases.0 c.in-Ok-Passes.field-0-is
          c.forwards_are_no_acts.ensures c.in-Ok-Passes.ensures.alone c.in-Ok-Passes.ensures.line,
    )

pub returns-in-Err-clause-err : goal.returns-in-Err-clause-err
returns-in-Err-clause-err c = no_act c.in-Err.fault c.args.line.now c.in-Ok.text.now c.in-Ok.ensures.cases.0 c.in-Err.ensures.err
