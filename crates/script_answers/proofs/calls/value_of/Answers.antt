use Rattle.script_answers.proofs.Common.{ap, ◌∙◌, sym, Ok}
use Rattle.script_answers.proofs.CallReads.{value-none}
use Rattle.script_answers.proofs.calls.value_of.Goals as goal

pub returns-in-none : goal.returns-in-none
returns-in-none c = λ value can same. ap Ok (value-none value can (sym c.in-none.is ∙ same))
