-- Two acts with one line are one.
use Rattle.script_answer_acts.proofs.Common.{sym, ap, ◌∙◌, LinesTellActs}
use Rattle.script_answer_acts.proofs.Inverse.{act_in, act-back}
use Rattle.script_answer_acts.proofs.Splits.{parts_at}
use Rattle.script_answer_acts.proofs.WordsOf.{line-parts}

pub lines_tell_acts : LinesTellActs
lines_tell_acts one other sound other_sound plain other_plain same =
    sym (act-back other other_sound other_plain)
    ∙ (ap act_in (sym (line-parts other other_sound) ∙ (ap (parts_at 32) (sym same) ∙ line-parts one sound))
    ∙ act-back one sound plain)
