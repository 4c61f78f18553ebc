use Rattle.script_answers.proofs.Common.{◌∙◌, [], ◌∷◌, sym, ap, inl, decimal, codes, Ok}
use Rattle.script_answers.proofs.Shapes.{form-at, is-read, not-read, parts-of}
use Rattle.script_answers.proofs.acts.time_act.Goals as goal

pub returns-in_err-tag-in-wait-clause-reads : goal.returns-in_err-tag-in-wait-clause-reads
returns-in_err-tag-in-wait-clause-reads c = λ other one can same.
    let parts = parts-of _ _ _ _ other c.of-words.ensures c.in_ok-word.ensures.ok same in
    let form = form-at (codes "wait") _ other (parts.0 ∙ c.in-wait.is) parts.1 can in
    let ticks = c.in_ok-number-in-wait.ensures form.0 (decimal form.1 ∷ []) form.2.2.0.0 form.2.1 in
    absurd (not-read _ _ (c.in_err-tag-in-wait.ensures form.1 [] form.2.2.2 ticks.1).0)

pub returns-in_ok-tag-in-wait-clause-reads : goal.returns-in_ok-tag-in-wait-clause-reads
returns-in_ok-tag-in-wait-clause-reads c = λ other one can same.
    let parts = parts-of _ _ _ _ other c.of-words.ensures c.in_ok-word.ensures.ok same in
    let form = form-at (codes "wait") _ other (parts.0 ∙ c.in-wait.is) parts.1 can in
    let ticks = c.in_ok-number-in-wait.ensures form.0 (decimal form.1 ∷ []) form.2.2.0.0 form.2.1 in
    let tag = c.in_ok-tag-in-wait.ensures form.1 [] form.2.2.2 ticks.1 in
    inl (ap Ok (rw (is-read _ _ ticks.0, is-read _ _ tag.0) (sym form.2.0)))
