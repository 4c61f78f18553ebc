use Rattle.world_state.proofs.Common.{◌<◌, ◌≤◌, ◌∙◌, ap, arith, length, is_known, with_drain, ObjectionsValue, nodes_at, place_in, IsTrue}
use Rattle.world_state.proofs.Placed.{at-place}
use Rattle.world_state.proofs.Listed.{changed-all, changed-more, same-nodes}
use Rattle.world_state.proofs.objections.Objections.set_each_drain.Goals as goal

pub set_drain_at-requires-clause-known : goal.set_drain_at-requires-clause-known
set_drain_at-requires-clause-known c =
    let place = c.loop-place.place in
    let here : place ≤ place = omega arith in
    let most = c.self.invariant.most in
    let less : place < length c.args.self.now.each = omega (arith, ap (λ (o : ObjectionsValue). length o.each) c.self.view_is) in
    let before : IsTrue (is_known c.args.node (nodes_at c.args.self.now.each place)) = at-place (λ n. IsTrue (is_known c.args.node (nodes_at c.args.self.now.each n))) c.requires.known place (omega (arith, most)) in
    rw (same-nodes c.loop-place.self.each c.args.self.now.each place less (c.loop-place.invariant.0.rest place here)) before

pub loop-place-preserved : goal.loop-place-preserved
loop-place-preserved c =
    let less : c.loop-place.place < length c.loop-place.self.each = omega (arith, ap (λ (o : ObjectionsValue). length o.each) c.self.view_is, c.loop-place.invariant.0.count) in
    (changed-more (with_drain c.args.node c.args.ticks) c.loop-place.place c.args.self.now.each c.loop-place.self.each c.set_drain_at.new.self.each c.loop-place.invariant.0 less c.set_drain_at.ensures.nodes c.set_drain_at.ensures.others c.set_drain_at.ensures.count, c.set_drain_at.ensures.given ∙ c.loop-place.invariant.1)

pub returns-clause-nodes : goal.returns-clause-nodes
returns-clause-nodes c = λ phase.
    let long : 2 ≤ length c.args.self.now.each = rw (← c.self.view_is) c.self.invariant.least in
    let far : length c.args.self.now.each ≤ c.loop-place.place = omega (arith, ap (λ (o : ObjectionsValue). length o.each) c.self.view_is) in
    changed-all (with_drain c.args.node c.args.ticks) c.loop-place.place c.args.self.now.each c.loop-place.self.each long c.loop-place.invariant.0 far (place_in phase)
