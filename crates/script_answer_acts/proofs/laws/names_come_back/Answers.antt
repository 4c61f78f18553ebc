use Rattle.script_answer_acts.proofs.Parts.{names-back}
use Rattle.script_answer_acts.proofs.laws.names_come_back.Goals as goal

pub returns : goal.returns
returns c = names-back
