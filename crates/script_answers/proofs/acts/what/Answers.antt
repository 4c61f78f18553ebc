use Rattle.script_answers.proofs.Common.{[], sym, ap, codes, Ok}
use Rattle.script_answers.proofs.Shapes.{behind-of, export-form, is-read, port-form, sequencer-form}
use Rattle.script_answers.proofs.acts.what.Goals as goal

pub returns-in_ok-mode-in-sequencer : goal.returns-in_ok-mode-in-sequencer
returns-in_ok-mode-in-sequencer c = λ what fits is.
    let form = sequencer-form what _ (behind-of _ _ _ _ (codes "sequencer") c.in_ok-word.ensures.ok c.in-sequencer.is is) in
    let read = c.in_ok-mode-in-sequencer.ensures form.0 [] tt form.2 in
    ap Ok (rw (is-read _ _ read.0) (sym form.1))

pub returns-in_ok-port_kind-in-port : goal.returns-in_ok-port_kind-in-port
returns-in_ok-port_kind-in-port c = λ what fits is.
    let form = port-form what _ (behind-of _ _ _ _ (codes "port") c.in_ok-word.ensures.ok c.in-port.is is) in
    let read = c.in_ok-port_kind-in-port.ensures form.0 [] tt form.2 in
    ap Ok (rw (is-read _ _ read.0) (sym form.1))

pub returns-in_ok-port_kind-in-export : goal.returns-in_ok-port_kind-in-export
returns-in_ok-port_kind-in-export c = λ what fits is.
    let form = export-form what _ (behind-of _ _ _ _ (codes "export") c.in_ok-word.ensures.ok c.in-export.is is) in
    let read = c.in_ok-port_kind-in-export.ensures form.0 [] tt form.2 in
    ap Ok (rw (is-read _ _ read.0) (sym form.1))
