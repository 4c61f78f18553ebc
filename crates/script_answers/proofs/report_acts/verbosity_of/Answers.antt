use Rattle.script_answers.proofs.Common.{◌∙◌, sym, ap, join_with_byte, Ok}
use Rattle.script_answers.proofs.Shapes.{said-none, said-some}
use Rattle.script_answers.proofs.report_acts.verbosity_of.Goals as goal

pub returns-then-is_done : goal.returns-then-is_done
returns-then-is_done c = λ verbosity text fits is.
    let none = c.is_done.ensures.0 c.if-is_done.true in
    let both = said-none verbosity text (sym none ∙ is) in
    (ap Ok (sym both.0), ap (join_with_byte 32) none ∙ sym both.1)

pub returns : goal.returns
returns c = λ verbosity text fits is.
    let said = said-some verbosity text _ is (λ none. cc (c.is_done.ensures.1 none, c.if-is_done.false)) in
    let read = c.small.ensures verbosity said.0 fits said.1 in
    (read.0, ap (join_with_byte 32) read.1 ∙ said.2)
