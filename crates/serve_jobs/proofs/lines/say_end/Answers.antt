use Rattle.std.proofs.Common.{◌++◌, ◌∷◌, [], codes}
use Rattle.serve_jobs.proofs.Talks.{said_last, said_more}
use Rattle.serve_jobs.proofs.lines.say_end.Goals as goal

pub returns-clause-ok : goal.returns-clause-ok
returns-clause-ok g c =
    let spoke = g.C.Client.spoke in
    let words = said_more spoke g.met.C.Client.joined _ _ _ (codes "! end ") c.args.words.now c.in_ok-say.ensures.ok c.in_ok-say-2.ensures.ok in
    said_last spoke g.met.C.Client.joined c.send.result _ _ _ (codes "! end " ++ c.args.words.now) (10 ∷ []) words c.send.ensures.ok
