-- The text of an act of an answer is that of no other.
use Rattle.script_answers.proofs.Common.{◌≡◌, ◌∙◌, ℕ, refl, ap, sym, List, get_or, arith, append_cancel_right, LinesTellActs, ForwardsAreNoActs, forward_act_stem, ForwardAct, AnswerActsTell, Says, Passes, codes}
use Rattle.script_answer_acts.specs.declared.forward_acts.ForwardAct.TheVariants as forward_act

-- two that pass on are one where their texts are: each has a first letter of its own
initial : ForwardAct → ℕ
initial (forward_act.Put port) = 112
initial (forward_act.TryPut port) = 116
initial (forward_act.Write port) = 119
initial (forward_act.ItemDone port) = 105
initial forward_act.Send = 115

initial-is : (passing : ForwardAct) → get_or (forward_act_stem passing) 0 0 ≡ initial passing
unfolding initial
initial-is (forward_act.Put port) = refl
initial-is (forward_act.TryPut port) = refl
initial-is (forward_act.Write port) = refl
initial-is (forward_act.ItemDone port) = refl
initial-is forward_act.Send = refl

forward_act-same : (one other : ForwardAct) → forward_act_stem one ≡ forward_act_stem other → other ≡ one
unfolding initial
forward_act-same (forward_act.Put port) (forward_act.Put other) same = let ports : port ≡ other = cc in ap forward_act.Put (sym ports)
forward_act-same (forward_act.TryPut port) (forward_act.TryPut other) same = let ports : port ≡ other = cc in ap forward_act.TryPut (sym ports)
forward_act-same (forward_act.Write port) (forward_act.Write other) same = let ports : port ≡ other = cc in ap forward_act.Write (sym ports)
forward_act-same (forward_act.ItemDone port) (forward_act.ItemDone other) same = let ports : port ≡ other = cc in ap forward_act.ItemDone (sym ports)
forward_act-same forward_act.Send forward_act.Send same = refl
forward_act-same one other same =
    let letters : initial one ≡ initial other = sym (initial-is one) ∙ (ap (λ (text : List ℕ). get_or text 0 0) same ∙ initial-is other) in
    absurd (omega (arith, letters))

pub answer_acts_tell : LinesTellActs → ForwardsAreNoActs → AnswerActsTell
answer_acts_tell lines apart (Says one) (Says other) alone others same = ap Says (lines one other alone.0 others.0 alone.1 others.1 same)
answer_acts_tell lines apart (Says one) (Passes other) alone others same = absurd (apart other one others alone.0 alone.1 same)
answer_acts_tell lines apart (Passes one) (Says other) alone others same = absurd (apart one other alone others.0 others.1 (sym same))
answer_acts_tell lines apart (Passes one) (Passes other) alone others same = ap Passes (forward_act-same one other (append_cancel_right (forward_act_stem one) (forward_act_stem other) (codes " *") same))
