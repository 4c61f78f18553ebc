use Rattle.script_answers.proofs.CallReads.{calls-have-words}
use Rattle.script_answers.proofs.call_laws.calls_have_words.Goals as goal

pub returns : goal.returns
returns c = calls-have-words c.parts_have_no_blanks.ensures
