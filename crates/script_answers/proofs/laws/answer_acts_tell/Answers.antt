use Rattle.script_answers.proofs.Tells.{answer_acts_tell}
use Rattle.script_answers.proofs.laws.answer_acts_tell.Goals as goal

pub returns : goal.returns
returns c = answer_acts_tell c.lines_tell_acts.ensures c.forwards_are_no_acts.ensures
