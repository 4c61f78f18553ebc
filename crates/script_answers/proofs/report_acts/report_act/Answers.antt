use Rattle.script_answers.proofs.Common.{◌∙◌, [], ◌∷◌, sym, ap, inl, severity_name, id_text, codes, Ok}
use Rattle.script_answers.proofs.Shapes.{form-at, is-read, not-read, parts-of}
use Rattle.script_answers.proofs.report_acts.report_act.Goals as goal

pub returns-in_err-severity-in-severity-2-clause-reads : goal.returns-in_err-severity-in-severity-2-clause-reads
returns-in_err-severity-in-severity-2-clause-reads c = λ other one can same.
    let parts = parts-of _ _ _ _ other c.of-words.ensures c.in_ok-word.ensures.ok same in
    let form = form-at (codes "severity") _ other (parts.0 ∙ c.in-severity.is) parts.1 can in
    let from = c.in_ok-severity-in-severity.ensures form.0 (id_text form.1 ∷ severity_name form.2 ∷ []) tt form.3.1 in
    let id = c.in_ok-some_id-in-severity.ensures.reads form.1 (severity_name form.2 ∷ []) (form.3.2.0, form.3.2.1) from.1 in
    absurd (not-read _ _ (c.in_err-severity-in-severity-2.ensures form.2 [] tt id.1).0)

pub returns-in_ok-severity-in-severity-2-clause-reads : goal.returns-in_ok-severity-in-severity-2-clause-reads
returns-in_ok-severity-in-severity-2-clause-reads c = λ other one can same.
    let parts = parts-of _ _ _ _ other c.of-words.ensures c.in_ok-word.ensures.ok same in
    let form = form-at (codes "severity") _ other (parts.0 ∙ c.in-severity.is) parts.1 can in
    let from = c.in_ok-severity-in-severity.ensures form.0 (id_text form.1 ∷ severity_name form.2 ∷ []) tt form.3.1 in
    let id = c.in_ok-some_id-in-severity.ensures.reads form.1 (severity_name form.2 ∷ []) (form.3.2.0, form.3.2.1) from.1 in
    let to = c.in_ok-severity-in-severity-2.ensures form.2 [] tt id.1 in
    inl (ap Ok (rw (is-read _ _ from.0, is-read _ _ id.0, is-read _ _ to.0) (sym form.3.0)))
