use Rattle.script_answers.proofs.Common.{◌∙◌, sym, ap, inl, what_words, codes, Ok}
use Rattle.script_answers.proofs.Shapes.{form-at, is-read, parts-of}
use Rattle.script_answers.proofs.acts.act_of.Goals as goal

pub returns-in_ok-what-in-add-clause-reads : goal.returns-in_ok-what-in-add-clause-reads
returns-in_ok-what-in-add-clause-reads c = λ other can same.
    let parts = parts-of _ _ _ _ other c.of-words.ensures c.in_ok-word.ensures.ok same in
    let form = form-at (codes "add") _ other (parts.0 ∙ c.in-add.is) parts.1 can in
    let name = c.in_ok-name-in-add.ensures form.0 (what_words form.1) form.2.2.0.0 form.2.1 in
    let added = c.in_ok-what-in-add.ensures form.1 form.2.2.2 name.1 in
    inl (ap Ok (rw (is-read _ _ name.0, is-read _ _ added) (sym form.2.0)))
