use Rattle.serve_answers.proofs.Tells as tells
use Rattle.serve_answers.proofs.laws.answers_tell.Goals as goal

pub returns : goal.returns
returns c = tells.answers_tell c.lines_tell_acts.ensures
