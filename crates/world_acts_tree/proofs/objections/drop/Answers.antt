use Rattle.world_acts_tree.proofs.Common.{◌≡◌, false, refl, sym, ◌∙◌, DropObjection, OutsideTask, act_phase, in_task, drop_refusal, refused-here}
use Rattle.world_acts_tree.proofs.objections.drop.Goals.{in_default-via-in-Some+else-is_task, in_default-via-in_default}
use Rattle.world_acts_tree.proofs.objections.drop.Goals as goal

pub returns-in_default : goal.returns-in_default
unfolding drop_refusal
returns-in_default c =
    let outside : in_task c.args.services.now.answer.phase ≡ false =
    elim c.in_default.branch [ in_default-via-in-Some+else-is_task w ↦ rw w.in-Some.is (sym w.is_task.ensures ∙ w.if-is_task.false) | in_default-via-in_default w ↦ rw w.in_default.is refl ] in
    refused-here _ _ _ (DropObjection c.args.count) OutsideTask c.args.place c.refused.ensures.act_result c.refused.ensures.services (λ script history m.
    let within : in_task (act_phase history) ≡ false = rw (← m.answer.phase) outside in
    rw within refl)
