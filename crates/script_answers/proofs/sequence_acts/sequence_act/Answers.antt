use Rattle.script_answers.proofs.Common.{◌∙◌, [], ◌∷◌, sym, ap, inl, how_text, some_item_text, codes, Ok}
use Rattle.script_answers.proofs.Shapes.{form-at, is-read, parts-of}
use Rattle.script_answers.proofs.sequence_acts.sequence_act.Goals as goal

pub returns-in_ok-how-in-ask-clause-reads : goal.returns-in_ok-how-in-ask-clause-reads
returns-in_ok-how-in-ask-clause-reads c = λ other one can same.
    let parts = parts-of _ _ _ _ other c.of-words.ensures c.in_ok-word.ensures.ok same in
    let form = form-at (codes "ask") _ other (parts.0 ∙ c.in-ask.is) parts.1 can in
    let port = c.in_ok-name-in-ask.ensures form.0 (how_text form.1 ∷ []) form.2.2.0 form.2.1 in
    let read = c.in_ok-how-in-ask.ensures form.1 [] tt port.1 in
    inl (ap Ok (rw (is-read _ _ port.0, is-read _ _ read.0) (sym form.2.0)))

pub returns-in_ok-some_item-in-item_done-clause-reads : goal.returns-in_ok-some_item-in-item_done-clause-reads
returns-in_ok-some_item-in-item_done-clause-reads c = λ other one can same.
    let parts = parts-of _ _ _ _ other c.of-words.ensures c.in_ok-word.ensures.ok same in
    let form = form-at (codes "item_done") _ other (parts.0 ∙ c.in-item_done.is) parts.1 can in
    let port = c.in_ok-name-in-item_done.ensures form.0 (some_item_text form.1 ∷ []) form.2.2.0.0 form.2.1 in
    let read = c.in_ok-some_item-in-item_done.ensures form.1 [] form.2.2.0.1 port.1 in
    inl (ap Ok (rw (is-read _ _ port.0, is-read _ _ read.0) (sym form.2.0)))
