-- The laws of the texts of answer actions.
use Rattle.std.specs.Prelude.{◌≡◌}
use Rattle.script_answers.specs.AnswerActs.{IsAlone, answer_act_line}
use Rattle.script_answers.specs.declared.answer_acts.AnswerAct.{AnswerAct}

-- two answer actions that have the same text are the same
abbrev pub AnswerActsTell : Type 0
AnswerActsTell = (one other : AnswerAct) → IsAlone one → IsAlone other → answer_act_line one ≡ answer_act_line other → other ≡ one
