use Rattle.serve_answers.proofs.Tells as tells
use Rattle.serve_answers.proofs.laws.reading_is_determined.Goals as goal

pub returns : goal.returns
returns c = tells.reading_is_determined
