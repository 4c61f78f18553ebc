use Rattle.script_objects.proofs.Common.{◌≡◌, ◌++◌, drop, map, act_with}
use Rattle.script_objects.proofs.objects.acts_of.Given as goal

-- the acts so far, and those of the replies that are left
abbrev pub invariant-loop-answer_act : goal.invariant-loop-answer_act
invariant-loop-answer_act l = l.acts ++ map (act_with l.item) (drop l.answer_act-index l.answer) ≡ map (act_with l.item) l.answer
