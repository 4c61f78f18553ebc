use Rattle.script_answers.proofs.Common.{[], ◌∷◌, sym, ap, inl, inr, signed_decimal, codes, Ok}
use Rattle.script_answers.proofs.Digits.{kept}
use Rattle.script_answers.proofs.Shapes.{form-at, is-read, no-memory}
use Rattle.script_answers.proofs.acts.set_act.Goals as goal

pub returns-clause-reads : goal.returns-clause-reads
returns-clause-reads c = λ other first can same.
    let form = form-at (codes "set") _ other first same can in
    elim (c.in_ok-glob.ensures.reads form.0 (form.1 ∷ signed_decimal form.2 ∷ []) form.3.2.2 form.3.1) [
      | inr memory ↦ absurd (no-memory _ memory)
      | inl glob ↦
          let field = c.in_ok-name.ensures form.1 (signed_decimal form.2 ∷ []) form.3.2.0.1 glob.1 in
          let value = c.in_ok-integer.ensures form.2 [] form.3.2.0.2 field.1 in
          inl (ap Ok (rw (is-read _ _ glob.0, is-read _ _ field.0, kept _ form.2 form.3.2.0.2 (is-read _ _ value.0)) (sym form.3.0)))
    ]
