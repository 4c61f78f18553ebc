use Rattle.serve_answers.proofs.Shown as shown
use Rattle.serve_answers.proofs.laws.lines_are_shown.Goals as goal

pub returns : goal.returns
returns c = shown.lines_are_shown
