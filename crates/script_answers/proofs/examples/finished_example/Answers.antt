use Rattle.script_answers.proofs.Common.{arith, ◌≡◌, inr, refl, sym, ap, ◌∙◌, Finished, example_by, item_in, call_text, first_or, given_left, goes_on, codes, is_some}
use Rattle.script_answers.proofs.CallReads.{err-any, finished-parts}
use Rattle.script_answers.proofs.examples.finished_example.Goals as goal

-- the name of such a call is read
pub returns-in_err-name-clause-none : goal.returns-in_err-name-clause-none
returns-in_err-name-clause-none c = err-any _ _ (λ fault. inr (λ call can same begins.
    let parts = finished-parts (given_left c.args.words.now) (goes_on c.args.words.now) call can same begins in
    let read = c.in_err-name.ensures.reads parts.name parts.named (c.in_ok-word_or.ensures.word ∙ parts.first) in
    absurd cc))

-- and its number
pub returns-in_err-number-clause-none : goal.returns-in_err-number-clause-none
returns-in_err-number-clause-none c = err-any _ _ (λ fault. inr (λ call can same begins.
    let parts = finished-parts (given_left c.args.words.now) (goes_on c.args.words.now) call can same begins in
    let read = c.in_err-number.ensures parts.id parts.small (c.in_ok-word_or-2.ensures.word ∙ ap (first_or (codes "1")) c.in_ok-word_or.ensures.left ∙ parts.second) in
    absurd cc))

-- the line is that of the call
pub returns-clause-line : goal.returns-clause-line
returns-clause-line c = record { call = Finished c.in_ok-name.name c.in_ok-number.number; can = (c.name_is_sound.ensures, omega arith); text = sym c.in_ok-finished_line.ensures; item = refl }

pub returns-clause-tells : goal.returns-clause-tells
returns-clause-tells c = λ call can same begins.
    let given = given_left c.args.words.now in
    let parts = finished-parts given (goes_on c.args.words.now) call can same begins in
    let name-read = c.in_ok-name.ensures.reads parts.name parts.named (c.in_ok-word_or.ensures.word ∙ parts.first) in
    let number-read = c.in_ok-number.ensures parts.id parts.small (c.in_ok-word_or-2.ensures.word ∙ ap (first_or (codes "1")) c.in_ok-word_or.ensures.left ∙ parts.second) in
    let is : Finished c.in_ok-name.name c.in_ok-number.number ≡ example_by given call = cc (name-read, number-read, parts.is) in
    (c.in_ok-finished_line.ensures ∙ ap call_text is, ap (λ other. is_some (item_in other)) is)
