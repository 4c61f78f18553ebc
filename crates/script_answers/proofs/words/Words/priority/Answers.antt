use Rattle.script_answers.proofs.Common.{◌≡◌, sym, ap, priority_text, codes, Ok}
use Rattle.script_answers.proofs.Digits.{none-read}
use Rattle.script_answers.proofs.words.Words.priority.Goals as goal

-- a number is not written so
pub returns-in-none : goal.returns-in-none
returns-in-none c = λ part rest can is.
    let taken = c.in_ok-word.ensures.ok in
    let word : priority_text part ≡ codes "none" = cc in
    (ap Ok (sym (none-read part can word)), cc)
