use Rattle.serve_dialogue.proofs.Common.{refl, sym}
use Rattle.serve_dialogue.proofs.PipeTalk.{made_unread}
use Rattle.serve_dialogue.proofs.pipes.PipeClient.read_made.Goals as goal

pub returns-clause-err : goal.returns-clause-err
returns-clause-err g c = rw (sym c.self.view_is) (made_unread g.R.Read.remaining g.W.Write.contents c.read_made.result (record { answers = c.self.inside.answers; output = c.self.inside.output }) (record { answers = c.read_made.new.self; output = c.self.inside.output }) _ refl c.read_made.ensures.err)
