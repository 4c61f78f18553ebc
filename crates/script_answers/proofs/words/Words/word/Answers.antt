use Rattle.script_answers.proofs.Common.{◌∙◌, ap, arith, slice_split_first, words_in, ◌==◌}
use Rattle.script_answers.proofs.Cuts.{cut-none}
use Rattle.script_answers.proofs.words.Words.word.Goals as goal

-- the text is cut at its first blank
pub returns-in-Some-clause-ok : goal.returns-in-Some-clause-ok
returns-in-Some-clause-ok c =
    let parts = c.in-Some.ensures.byte (omega arith) (λ w o found. found) in
    rw (parts.0, parts.1) (ap words_in c.in_ok-text.ensures.ok_part ∙ slice_split_first (λ b. b == 32) c.in_ok-text.text.now 0 parts.2)

-- it has none
pub returns-in-None-clause-ok : goal.returns-in-None-clause-ok
returns-in-None-clause-ok c =
    ap words_in c.in_ok-text.ensures.ok_part ∙ cut-none c.in_ok-text.text.now (c.in-None.ensures.byte (omega arith) (λ w o found. found))
