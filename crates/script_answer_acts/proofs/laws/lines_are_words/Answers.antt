use Rattle.script_answer_acts.proofs.WordsOf.{line-parts}
use Rattle.script_answer_acts.proofs.laws.lines_are_words.Goals as goal

pub returns : goal.returns
returns c = line-parts
