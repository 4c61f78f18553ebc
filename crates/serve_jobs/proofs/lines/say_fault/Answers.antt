use Rattle.std.proofs.Common.{◌∙◌, ◌++◌, ◌∷◌, [], ap, codes, subst}
use Rattle.std.specs.Fmt.{decimal}
use Rattle.serve_dialogue.specs.Errors.{error_text, wrong_line}
use Rattle.serve_dialogue.specs.Spoken.{said}
use Rattle.serve_jobs.proofs.Talks.{said_last, said_more}
use Rattle.serve_jobs.proofs.lines.say_fault.Goals as goal

pub returns-clause-ok : goal.returns-clause-ok
returns-clause-ok g c =
    let spoke = g.C.Client.spoke in
    let digits = c.as_bytes.ensures.value ∙ (c.format.ensures.text ∙ ap decimal c.wrong_line.ensures) in
    let label = c.as_bytes-2.ensures.value ∙ c.label.ensures in
    let line = decimal (wrong_line c.args.error) in
    let words = codes "! fault " in
    let number = said_more spoke g.met.C.Client.joined _ _ _ words line c.in_ok-say.ensures.ok (subst (λ text. spoke c.say.new.self c.say-2.new.self (said text)) digits c.in_ok-say-2.ensures.ok) in
    let blank = said_more spoke g.met.C.Client.joined _ _ _ (words ++ line) (32 ∷ []) number c.in_ok-say-3.ensures.ok in
    let reason = said_more spoke g.met.C.Client.joined _ _ _ (words ++ line ++ 32 ∷ []) (error_text c.args.error) blank (subst (λ text. spoke c.say-3.new.self c.say-4.new.self (said text)) label c.in_ok-say-4.ensures.ok) in
    said_last spoke g.met.C.Client.joined c.say-5.result _ _ _ (words ++ line ++ 32 ∷ [] ++ error_text c.args.error) (10 ∷ []) reason c.say-5.ensures.ok
