use Rattle.std.proofs.Common.{◌∙◌, ◌++◌, ◌∷◌, [], codes, subst}
use Rattle.std.specs.Fmt.{decimal}
use Rattle.serve_dialogue.specs.Spoken.{said}
use Rattle.serve_jobs.proofs.Talks.{said_last, said_more}
use Rattle.serve_jobs.proofs.lines.say_head.Goals as goal

pub returns-clause-ok : goal.returns-clause-ok
returns-clause-ok g c =
    let spoke = g.C.Client.spoke in
    let digits = c.as_bytes.ensures.value ∙ c.format.ensures.text in
    let words = codes "! serve 1" ++ 10 ∷ codes "! seed " in
    let number = said_more spoke g.met.C.Client.joined _ _ _ words (decimal c.args.seed) c.in_ok-say.ensures.ok (subst (λ text. spoke c.say.new.self c.say-2.new.self (said text)) digits c.in_ok-say-2.ensures.ok) in
    said_last spoke g.met.C.Client.joined c.say-3.result _ _ _ (words ++ decimal c.args.seed) (10 ∷ []) number c.say-3.ensures.ok
