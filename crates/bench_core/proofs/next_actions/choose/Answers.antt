use Rattle.std.proofs.Common.{◌≡◌, None, refl, rules, sym, subst, ◌∙◌}
use Rattle.bench_history.specs.Cases.{chosen_at, end_reached}
use Rattle.bench_core.proofs.Serving.{goes-on, passes-next, serves-next}
use Rattle.bench_core.proofs.next_actions.choose.Goals as goal

pub returns-in-Some-next_served : goal.returns-in-Some-next_served
returns-in-Some-next_served c =
    let world = c.args.world.now in
    let on = subst (λ stage. end_reached stage ≡ None) c.stage-stage.ensures (goes-on _ c.in_default.not-Ended) in
    let going = sym c.reason.ensures ∙ c.in_default-reason.is in
    let unlocked = sym c.next_locked.ensures ∙ c.in_default-next_locked.is in
    let served = c.next_served.ensures in
    let some = c.in-Some-next_served.is in
    let node = c.in-Some-next_served.sequencer-is in
    let drawn = c.in-Some-next_served.drawn-is in
    record {
      choice = (search rules, chosen_at world.history _, serves-next world.script world.history _ _ on going unlocked cc);
      err = tt;
      after = refl;
    }

pub returns-then-is_passing : goal.returns-then-is_passing
returns-then-is_passing c =
    let world = c.args.world.now in
    let on = subst (λ stage. end_reached stage ≡ None) c.stage-stage.ensures (goes-on _ c.in_default.not-Ended) in
    let going = sym c.reason.ensures ∙ c.in_default-reason.is in
    let unlocked = sym c.next_locked.ensures ∙ c.in_default-next_locked.is in
    let unserved = sym c.next_served.ensures ∙ c.in_default-next_served.is in
    let passes = passes-next world.script world.history on going unlocked unserved c.if-is_passing.ensures.some in
    record {
      choice = (search rules, passes.0, passes.1, passes.2);
      err = tt;
      after = refl;
    }
