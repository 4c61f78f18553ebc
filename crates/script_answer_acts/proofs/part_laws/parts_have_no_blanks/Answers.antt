use Rattle.script_answer_acts.proofs.Parts.{item-lacks, name-lacks, number-lacks, signed-lacks}
use Rattle.script_answer_acts.proofs.Common.{refl}
use Rattle.script_answer_acts.proofs.part_laws.parts_have_no_blanks.Goals as goal

-- no byte of theirs is a blank
pub returns : goal.returns
returns c = record { names = name-lacks 32 refl; numbers = λ n fits. number-lacks 32 n refl fits; integers = λ z fits. signed-lacks 32 z refl refl fits; items = item-lacks }
