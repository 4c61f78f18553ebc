use Rattle.script_answers.proofs.Common.{◌≡◌, ◌∷◌, ◌++◌, [], arith, strip_prefix_char, strip_suffix_char, None}
use Rattle.script_answers.proofs.Between.{front-there, front-is, back-is}
use Rattle.script_answers.proofs.words.between.Goals as goal

pub returns-in_err-inner : goal.returns-in_err-inner
returns-in_err-inner c = λ text low below is.
    let none : c.strip_prefix.result ≡ None = grind arith in
    absurd (front-there c.args.first c.args.word.now (text ++ c.args.last ∷ []) c.strip_prefix.result none (strip_prefix_char c.args.first c.args.word.now c.strip_prefix.result c.strip_prefix.ensures.cases low) is)

pub returns : goal.returns
returns c = λ text low below is.
    let inner = front-is c.args.first c.args.word.now (text ++ c.args.last ∷ []) c.in_ok-inner.inner c.strip_prefix.result c.in_ok-inner.ensures.ok_part (strip_prefix_char c.args.first c.args.word.now c.strip_prefix.result c.strip_prefix.ensures.cases low) is in
    back-is c.args.last c.in_ok-inner.inner.now text c.strip_suffix.result c.ok_or-2.result c.ok_or-2.ensures.value (strip_suffix_char c.args.last c.in_ok-inner.inner.now c.strip_suffix.result c.strip_suffix.ensures.cases below) inner
