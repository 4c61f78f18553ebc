use Rattle.std.proofs.Common.{codes}
use Rattle.serve_jobs.specs.Lines.{end_line, head_lines}
use Rattle.serve_jobs.proofs.Talks.{said_last}
use Rattle.serve_jobs.proofs.documents.serve_nothing.Goals as goal

pub returns-clause-ok : goal.returns-clause-ok
returns-clause-ok g c = said_last g.C.Client.spoke g.met.C.Client.joined c.say_end.result _ _ _ (head_lines c.args.seed) (end_line (codes "broken 3")) c.in_ok-say_head.ensures.ok c.say_end.ensures.ok
