use Rattle.script_answer_acts.proofs.Tells.{lines_tell_acts}
use Rattle.script_answer_acts.proofs.laws.lines_tell_acts.Goals as goal

-- src/laws.rt:7:1
pub returns : goal.returns
returns c = lines_tell_acts
