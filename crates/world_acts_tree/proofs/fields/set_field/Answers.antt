use mir.Val.{SFits}
use Rattle.world_acts_tree.proofs.Common.{to_z-of_z, w64, ◌≡◌, ◌∙◌, true, false, nat_le, length, ap, sym, refl, rules, most_settings, Set, TooManySettings, settings_of, setting_refusal, acted, refused-act_result}
use Rattle.world_acts_tree.proofs.fields.set_field.Goals as goal

pub returns-then-is_full : goal.returns-then-is_full
unfolding setting_refusal
returns-then-is_full c = refused-act_result _ _ _ (Set c.args.glob.now c.args.field c.args.value) TooManySettings c.refused.ensures.act_result c.refused.ensures.services (λ script history m.
    let full : nat_le most_settings (length (settings_of script history)) ≡ true = ap (nat_le most_settings) (sym m.settings.count) ∙ sym c.is_full.ensures ∙ c.if-is_full.true in
    rw full refl)

pub returns : goal.returns
unfolding setting_refusal
returns c = λ place. rw (c.done.ensures.act_result, c.done.ensures.services) (record {
  comes = λ script history s.
      let few : nat_le most_settings (length (settings_of script history)) ≡ false = ap (nat_le most_settings) (sym s.known.settings.count) ∙ sym c.is_full.ensures ∙ c.if-is_full.false in
      rw few refl;
  kept = record {
    same_answer = refl;
    with_entry = λ script history s.
        let m = s.known in
        let left = s.left in
        let fits : SFits w64 c.args.value = c.ranges.value in
        let settings = rw (c.in_ok-scope.ensures, c.is_building-building.ensures, c.depth_of-depth.ensures.depth, c.node-node.ensures, m.tree, m.stage, to_z-of_z w64 c.args.value fits) at (c.in_ok-set.ensures _ m.settings) in
        search (rules, acted);
  };
})
