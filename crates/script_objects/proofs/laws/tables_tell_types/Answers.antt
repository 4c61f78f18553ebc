use Rattle.script_objects.proofs.Single.{tables_tell_types}
use Rattle.script_objects.proofs.laws.tables_tell_types.Goals as goal

pub returns : goal.returns
returns c = tables_tell_types c.answer_acts_tell.ensures
