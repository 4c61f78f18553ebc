use Rattle.world_state.proofs.Common.{ap, ObjectionsValue}
use Rattle.world_state.proofs.Listed.{others-stay}
use Rattle.world_state.proofs.objections.Objections.drained.Goals as goal

pub returns-clause-others : goal.returns-clause-others
returns-clause-others c =
    let own = c.in_ok-place.ensures in
    others-stay c.args.phase c.in_ok-place.place c.args.self.now.each c.own_place.new.self.each c.self.inside.each.items c.drained.new.self own.place (ap (λ (o : ObjectionsValue). o.each) c.self.view_is) own.own own.nodes
