use Rattle.serve_dialogue.proofs.Common.{answer_text, refl, sym}
use Rattle.serve_dialogue.proofs.PipeTalk.{acts_unread, answer_read}
use Rattle.serve_dialogue.proofs.pipes.PipeClient.read_acts.Goals as goal

pub returns-clause-ok : goal.returns-clause-ok
returns-clause-ok g c = rw (sym c.self.view_is) (answer_read g.R.Read.remaining g.W.Write.contents c.read_acts.result answer_text (record { answers = c.self.inside.answers; output = c.self.inside.output }) (record { answers = c.read_acts.new.self; output = c.self.inside.output }) refl c.read_acts.ensures.ok)

pub returns-clause-err : goal.returns-clause-err
returns-clause-err g c = rw (sym c.self.view_is) (acts_unread g.R.Read.remaining g.W.Write.contents c.read_acts.result (record { answers = c.self.inside.answers; output = c.self.inside.output }) (record { answers = c.read_acts.new.self; output = c.self.inside.output }) _ _ refl c.read_acts.ensures.err)
