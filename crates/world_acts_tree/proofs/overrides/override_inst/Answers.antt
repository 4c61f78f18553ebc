use Rattle.world_acts_tree.proofs.Common.{◌≡◌, Some, None, refl, sym, ◌∙◌, rules, OverrideInst, overriding_refusal, acted, refused-act_result}
use Rattle.world_acts_tree.proofs.overrides.override_inst.Goals as goal

pub returns-in-Some : goal.returns-in-Some
returns-in-Some c = refused-act_result _ _ _ (OverrideInst c.args.original.now c.args.new.now c.args.glob.now) c.in-Some.fatal c.refused.ensures.act_result c.refused.ensures.services (λ script history m.
    let refuses : overriding_refusal script.types c.args.original.now c.args.new.now ≡ Some c.in-Some.fatal = rw (← m.factory.types_are) (sym c.overriding_refusal.ensures ∙ c.in-Some.is) in
    rw refuses refl)

pub returns : goal.returns
returns c = λ place. rw (c.done.ensures.act_result, c.done.ensures.services) (record {
  comes = λ script history s.
      let does : overriding_refusal script.types c.args.original.now c.args.new.now ≡ None = rw (← s.known.factory.types_are) (sym c.in_default.ensures) in
      rw does refl;
  kept = record {
    same_answer = refl;
    with_entry = λ script history s.
        let m = s.known in
        let left = s.left in
        let factory = rw (c.in_ok-scope.ensures, c.node-node.ensures, m.tree) at c.in_ok-override_within.ensures _ _ m.factory in
        search (rules, acted);
  };
})
