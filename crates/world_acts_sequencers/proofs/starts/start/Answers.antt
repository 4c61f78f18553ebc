use Rattle.world_acts_sequencers.proofs.Common.{◌≡◌, suc, length, Some, ap, refl, sym, ◌∙◌, Started, overrides_of, starting_refusal, sequences_of, Needs, needed_sequence, starting_now, starting_effect, refused-act_result}
use Rattle.uvm_acts.specs.declared.acts.Act.TheVariants.{Start}
use Rattle.world_acts_sequencers.proofs.Begun.{starting-known, unrefused-needs}
use Rattle.world_acts_sequencers.proofs.starts.start.Goals as goal

pub returns-in-Ok : goal.returns-in-Ok
returns-in-Ok c = λ place. record {
  comes = λ script history s.
      let m = s.known in
      let performer = c.args.services.now.answer.performer in
      let found = c.in-Ok.ensures.ok script.types (overrides_of script history) m.factory in
      let same = starting-known m performer c.args.type_name.now c.args.name.now c.args.on.now c.args.priority in
      let is : starting_effect (length (sequences_of history)) (starting_now script history performer c.args.type_name.now c.args.name.now c.args.on.now c.args.priority) ≡ Needs _ (Started (suc (length (sequences_of history)))) =
      unrefused-needs _ (length (sequences_of history)) (ap starting_refusal same ∙ found.0) (ap needed_sequence same ∙ found.1) in
      (Started (suc (length (sequences_of history))), rw is refl);
  home_is = sym c.in-Ok.ensures.home;
  same = refl;
}

pub returns-in-Err-Refused : goal.returns-in-Err-Refused
returns-in-Err-Refused c =
    let performer = c.args.services.now.answer.performer in
    let fatal = c.in-Err-Refused.fatal in
    refused-act_result _ _ _ (Start c.args.type_name.now c.args.name.now c.args.on.now c.args.priority) fatal c.refused.ensures.act_result c.refused.ensures.services (λ script history m.
    let why = rw c.in-Err-Refused.field-0-is at c.in-Err-Refused.ensures.err in
    let refuses : starting_refusal (starting_now script history performer c.args.type_name.now c.args.name.now c.args.on.now c.args.priority) ≡ Some fatal =
    ap starting_refusal (starting-known m performer c.args.type_name.now c.args.name.now c.args.on.now c.args.priority) ∙ why script.types (overrides_of script history) m.factory in
    rw refuses refl)
