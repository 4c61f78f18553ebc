use Rattle.script_answers.proofs.Cuts.{none-left}
use Rattle.script_answers.proofs.words.Words.is_done.Goals as goal

pub returns : goal.returns
returns c = none-left c.args.self.now.left c.is_none.result c.is_none.ensures
