use Rattle.std.proofs.Common.{◌∙◌, sym}
use Rattle.script_legal.proofs.Shown.{digits-utf8, number-parsed}
use Rattle.script_legal.proofs.words.number_in.Goals as goal

-- the digits are parsed
pub returns-in-Ok : goal.returns-in-Ok
returns-in-Ok c =
    c.ok.ensures.value ∙ number-parsed c.args.text.now c.parse.result (rw c.in-Ok.ensures.cases.0 at c.parse.ensures.value.0) (sym c.if-not-are_digits.ensures)

-- digits are UTF-8
pub returns-in-Err : goal.returns-in-Err
returns-in-Err c = absurd (c.in-Err.ensures.cases.0 (digits-utf8 c.args.text.now (sym c.if-not-are_digits.ensures)))
