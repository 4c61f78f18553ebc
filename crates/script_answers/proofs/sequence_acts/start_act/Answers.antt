use Rattle.script_answers.proofs.Common.{[], ◌∷◌, sym, ap, inl, inr, path_text, priority_text, in_brackets, err_from_is_err_and, codes, Ok}
use Rattle.script_answers.proofs.Shapes.{form-at, is-read, memory-out, no-memory, not-read}
use Rattle.script_answers.proofs.sequence_acts.start_act.Goals as goal

pub returns-in_err-path-clause-reads : goal.returns-in_err-path-clause-reads
returns-in_err-path-clause-reads c = λ other first can same.
    let form = form-at (codes "start") _ other first same can in
    let kind = c.in_ok-name.ensures form.0 (form.1 ∷ in_brackets (path_text form.2) ∷ priority_text form.3 ∷ []) form.4.2.0.0 form.4.1 in
    let name = c.in_ok-name-2.ensures form.1 (in_brackets (path_text form.2) ∷ priority_text form.3 ∷ []) form.4.2.0.1 kind.1 in
    elim (c.in_err-path.ensures.reads form.2 (priority_text form.3 ∷ []) form.4.2.0.2 name.1) [
      | inl read ↦ absurd (not-read _ _ read.0)
      | inr memory ↦ let fault = err_from_is_err_and c.from_residual-in_err-path.result c.from_residual-in_err-path.ensures.1 in rw (fault.1, fault.2) (inr (memory-out _ memory))
    ]

pub returns-in_err-priority-clause-reads : goal.returns-in_err-priority-clause-reads
returns-in_err-priority-clause-reads c = λ other first can same.
    let form = form-at (codes "start") _ other first same can in
    let kind = c.in_ok-name.ensures form.0 (form.1 ∷ in_brackets (path_text form.2) ∷ priority_text form.3 ∷ []) form.4.2.0.0 form.4.1 in
    let name = c.in_ok-name-2.ensures form.1 (in_brackets (path_text form.2) ∷ priority_text form.3 ∷ []) form.4.2.0.1 kind.1 in
    elim (c.in_ok-path.ensures.reads form.2 (priority_text form.3 ∷ []) form.4.2.0.2 name.1) [
      | inr memory ↦ absurd (no-memory _ memory)
      | inl on ↦ absurd (not-read _ _ (c.in_err-priority.ensures form.3 [] form.4.2.2 on.1).0)
    ]

pub returns-clause-reads : goal.returns-clause-reads
returns-clause-reads c = λ other first can same.
    let form = form-at (codes "start") _ other first same can in
    let kind = c.in_ok-name.ensures form.0 (form.1 ∷ in_brackets (path_text form.2) ∷ priority_text form.3 ∷ []) form.4.2.0.0 form.4.1 in
    let name = c.in_ok-name-2.ensures form.1 (in_brackets (path_text form.2) ∷ priority_text form.3 ∷ []) form.4.2.0.1 kind.1 in
    elim (c.in_ok-path.ensures.reads form.2 (priority_text form.3 ∷ []) form.4.2.0.2 name.1) [
      | inr memory ↦ absurd (no-memory _ memory)
      | inl on ↦
          let priority = c.in_ok-priority.ensures form.3 [] form.4.2.2 on.1 in
          inl (ap Ok (rw (is-read _ _ kind.0, is-read _ _ name.0, is-read _ _ on.0, is-read _ _ priority.0) (sym form.4.0)))
    ]
