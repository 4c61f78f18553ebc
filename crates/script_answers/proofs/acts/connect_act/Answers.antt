use Rattle.script_answers.proofs.Common.{[], ◌∷◌, sym, ap, inl, inr, path_text, in_brackets, err_from_is_err_and, codes, Ok}
use Rattle.script_answers.proofs.Shapes.{form-at, is-read, memory-out, no-memory, not-read}
use Rattle.script_answers.proofs.acts.connect_act.Goals as goal

pub returns-in_err-path-clause-reads : goal.returns-in_err-path-clause-reads
returns-in_err-path-clause-reads c = λ other first can same.
    let form = form-at (codes "connect") _ other first same can in
    elim (c.in_err-path.ensures.reads form.0 (in_brackets (path_text form.1) ∷ []) form.2.2.0.0 form.2.1) [
      | inl read ↦ absurd (not-read _ _ read.0)
      | inr memory ↦ let fault = err_from_is_err_and c.from_residual.result c.from_residual.ensures.1 in rw (fault.1, fault.2) (inr (memory-out _ memory))
    ]

pub returns-in_err-path-2-clause-reads : goal.returns-in_err-path-2-clause-reads
returns-in_err-path-2-clause-reads c = λ other first can same.
    let form = form-at (codes "connect") _ other first same can in
    elim (c.in_ok-path.ensures.reads form.0 (in_brackets (path_text form.1) ∷ []) form.2.2.0.0 form.2.1) [
      | inr memory ↦ absurd (no-memory _ memory)
      | inl from ↦ elim (c.in_err-path-2.ensures.reads form.1 [] form.2.2.0.1 from.1) [
        | inl read ↦ absurd (not-read _ _ read.0)
        | inr memory ↦ let fault = err_from_is_err_and c.from_residual-in_err-path-2.result c.from_residual-in_err-path-2.ensures.1 in rw (fault.1, fault.2) (inr (memory-out _ memory))
      ]
    ]

pub returns-clause-reads : goal.returns-clause-reads
returns-clause-reads c = λ other first can same.
    let form = form-at (codes "connect") _ other first same can in
    elim (c.in_ok-path.ensures.reads form.0 (in_brackets (path_text form.1) ∷ []) form.2.2.0.0 form.2.1) [
      | inr memory ↦ absurd (no-memory _ memory)
      | inl from ↦ elim (c.in_ok-path-2.ensures.reads form.1 [] form.2.2.0.1 from.1) [
        | inr memory ↦ absurd (no-memory _ memory)
        | inl to ↦ inl (ap Ok (rw (is-read _ _ from.0, is-read _ _ to.0) (sym form.2.0)))
      ]
    ]
