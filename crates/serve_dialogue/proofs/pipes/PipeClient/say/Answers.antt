use Rattle.serve_dialogue.proofs.Common.{refl, sym}
use Rattle.serve_dialogue.proofs.PipeTalk.{text_said}
use Rattle.serve_dialogue.proofs.pipes.PipeClient.say.Goals as goal

pub returns-clause-ok : goal.returns-clause-ok
returns-clause-ok g c = rw (sym c.self.view_is) (text_said g.R.Read.remaining g.W.Write.contents c.write_all.result (record { answers = c.self.inside.answers; output = c.self.inside.output }) (record { answers = c.self.inside.answers; output = c.write_all.new.self }) c.args.text.now refl c.write_all.ensures.bytes)
