use Rattle.script_answers.proofs.Common.{◌∙◌, ◌∷◌, sym, ap, inl, inr, said_words, err_from_is_err_and, codes, Ok}
use Rattle.script_answers.proofs.Shapes.{form-at, is-read, memory-out, no-memory, not-read}
use Rattle.script_answers.proofs.report_acts.report.Goals as goal

pub returns-in_err-verbosity-clause-reads : goal.returns-in_err-verbosity-clause-reads
returns-in_err-verbosity-clause-reads c = λ other first can same.
    let form = form-at (codes "report") _ other first same can in
    let severity = c.in_ok-severity.ensures form.0.severity (form.0.id ∷ said_words form.0.verbosity form.0.text) tt form.1.1 in
    let id = c.in_ok-id.ensures form.0.id (said_words form.0.verbosity form.0.text) form.1.2.0.0 severity.1 in
    absurd (not-read _ _ (c.in_err-verbosity.ensures form.0.verbosity form.0.text form.1.2.2.0 id.1).0)

pub returns-in_err-text-clause-reads : goal.returns-in_err-text-clause-reads
returns-in_err-text-clause-reads c = λ other first can same.
    let form = form-at (codes "report") _ other first same can in
    let severity = c.in_ok-severity.ensures form.0.severity (form.0.id ∷ said_words form.0.verbosity form.0.text) tt form.1.1 in
    let id = c.in_ok-id.ensures form.0.id (said_words form.0.verbosity form.0.text) form.1.2.0.0 severity.1 in
    let verbosity = c.in_ok-verbosity.ensures form.0.verbosity form.0.text form.1.2.2.0 id.1 in
    elim (c.in_err-text.ensures (rw verbosity.1 form.1.2.2.1)) [
      | inl read ↦ absurd (not-read _ _ read)
      | inr memory ↦ let fault = err_from_is_err_and c.from_residual-in_err-text.result c.from_residual-in_err-text.ensures.1 in rw (fault.1, fault.2) (inr (memory-out _ memory))
    ]

pub returns-clause-reads : goal.returns-clause-reads
returns-clause-reads c = λ other first can same.
    let form = form-at (codes "report") _ other first same can in
    let severity = c.in_ok-severity.ensures form.0.severity (form.0.id ∷ said_words form.0.verbosity form.0.text) tt form.1.1 in
    let id = c.in_ok-id.ensures form.0.id (said_words form.0.verbosity form.0.text) form.1.2.0.0 severity.1 in
    let verbosity = c.in_ok-verbosity.ensures form.0.verbosity form.0.text form.1.2.2.0 id.1 in
    elim (c.in_ok-text.ensures (rw verbosity.1 form.1.2.2.1)) [
      | inr memory ↦ absurd (no-memory _ memory)
      | inl text ↦ inl (ap Ok (rw (is-read _ _ severity.0, is-read _ _ id.0, is-read _ _ text ∙ verbosity.1, is-read _ _ verbosity.0) (sym form.1.0)))
    ]
