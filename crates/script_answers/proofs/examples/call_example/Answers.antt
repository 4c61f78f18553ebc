use Rattle.script_answers.proofs.Common.{◌≡◌, ap, ◌∙◌, example_by, item_in, given_left, call_text, is_some}
use Rattle.script_answers.proofs.CallReads.{not-finished}
use Rattle.script_answers.proofs.examples.call_example.Goals as goal

-- the call that was read is the example
pub returns-clause-tells : goal.returns-clause-tells
returns-clause-tells c = λ apart call can same begins.
    let read = c.in_ok-call.ensures call can (not-finished c.args.keyword.now call apart same) same begins in
    let is : c.in_ok-call.call ≡ example_by (given_left c.args.words.now) call = cc read in
    (c.in_ok-call_text.ensures.text ∙ ap call_text is, c.is_some.ensures ∙ ap is_some (c.item_in.ensures ∙ ap item_in is))
