use Rattle.world_acts_tree.proofs.Common.{◌≡◌, Some, refl, Create, Made, overrides_of, creation_refusal, Needs, creation_now, creation_effect, refused-act_result}
use Rattle.world_acts_tree.proofs.components.create.Goals as goal

pub returns-in-Err-Refused : goal.returns-in-Err-Refused
returns-in-Err-Refused c = refused-act_result _ _ _ (Create c.args.type_name.now c.args.name.now) c.in-Err-Refused.fatal c.refused.ensures.act_result c.refused.ensures.services (λ script history m.
    let why = rw c.in-Err-Refused.field-0-is at c.in-Err-Refused.ensures.err in
    let refuses : creation_refusal (creation_now script history c.args.services.now.answer.performer c.args.type_name.now c.args.name.now) ≡ Some c.in-Err-Refused.fatal = rw (← m.built, ← m.tree) (why script.types (overrides_of script history) m.factory) in
    rw refuses refl)

pub returns-in-Ok : goal.returns-in-Ok
returns-in-Ok c = λ place. record {
  comes = λ script history s.
      let m = s.known in
      let is : creation_effect (creation_now script history c.args.services.now.answer.performer c.args.type_name.now c.args.name.now) ≡ Needs c.in-Ok.need (Made c.in-Ok.need.type_name) = rw (← m.built, ← m.tree) (c.in-Ok.ensures.ok script.types (overrides_of script history) m.factory) in
      (Made c.in-Ok.need.type_name, rw is refl);
  home_is = refl;
  same = refl;
}
