use Rattle.world_state.proofs.Common.{◌≡◌, ◌<◌, ◌≤◌, ◌++◌, ◌∷◌, ◌∙◌, [], false, ap, arith, length, is_known, new_node, ObjectionsValue, nodes_at, place_in, spare_at, IsTrue}
use Rattle.world_state.proofs.Placed.{at-place}
use Rattle.world_state.proofs.Listed.{changed-all, changed-more, same-nodes, same-spare}
use Rattle.world_state.proofs.objections.Objections.add_to_each.Goals as goal

pub add_at-requires-clause-unknown : goal.add_at-requires-clause-unknown
add_at-requires-clause-unknown c =
    let place = c.loop-place.place in
    let here : place ≤ place = omega arith in
    let most = c.self.invariant.most in
    let less : place < length c.args.self.now.each = omega (arith, ap (λ (o : ObjectionsValue). length o.each) c.self.view_is) in
    let before : is_known c.args.node (nodes_at c.args.self.now.each place) ≡ false = at-place (λ n. is_known c.args.node (nodes_at c.args.self.now.each n) ≡ false) c.requires.unknown place (omega (arith, most)) in
    rw (same-nodes c.loop-place.self.each c.args.self.now.each place less (c.loop-place.invariant.0.rest place here)) before

pub add_at-requires-clause-parent : goal.add_at-requires-clause-parent
add_at-requires-clause-parent c =
    let place = c.loop-place.place in
    let here : place ≤ place = omega arith in
    let most = c.self.invariant.most in
    let less : place < length c.args.self.now.each = omega (arith, ap (λ (o : ObjectionsValue). length o.each) c.self.view_is) in
    let before : IsTrue (is_known c.args.parent (nodes_at c.args.self.now.each place)) = at-place (λ n. IsTrue (is_known c.args.parent (nodes_at c.args.self.now.each n))) c.requires.parent place (omega (arith, most)) in
    rw (same-nodes c.loop-place.self.each c.args.self.now.each place less (c.loop-place.invariant.0.rest place here)) before

pub add_at-requires-clause-room : goal.add_at-requires-clause-room
add_at-requires-clause-room c =
    let place = c.loop-place.place in
    let here : place ≤ place = omega arith in
    let most = c.self.invariant.most in
    let less : place < length c.args.self.now.each = omega (arith, ap (λ (o : ObjectionsValue). length o.each) c.self.view_is) in
    let before : 0 < spare_at c.args.self.now.each place = at-place (λ n. 0 < spare_at c.args.self.now.each n) c.requires.room place (omega (arith, most)) in
    rw (same-spare c.loop-place.self.each c.args.self.now.each place less (c.loop-place.invariant.0.rest place here)) before

pub loop-place-preserved : goal.loop-place-preserved
loop-place-preserved c =
    let less : c.loop-place.place < length c.loop-place.self.each = omega (arith, ap (λ (o : ObjectionsValue). length o.each) c.self.view_is, c.loop-place.invariant.0.count) in
    (changed-more (λ nodes. nodes ++ new_node c.args.node c.args.parent ∷ []) c.loop-place.place c.args.self.now.each c.loop-place.self.each c.add_at.new.self.each c.loop-place.invariant.0 less c.add_at.ensures.nodes c.add_at.ensures.others c.add_at.ensures.count, c.add_at.ensures.given ∙ c.loop-place.invariant.1)

pub returns-clause-nodes : goal.returns-clause-nodes
returns-clause-nodes c = λ phase.
    let long : 2 ≤ length c.args.self.now.each = rw (← c.self.view_is) c.self.invariant.least in
    let far : length c.args.self.now.each ≤ c.loop-place.place = omega (arith, ap (λ (o : ObjectionsValue). length o.each) c.self.view_is) in
    changed-all (λ nodes. nodes ++ new_node c.args.node c.args.parent ∷ []) c.loop-place.place c.args.self.now.each c.loop-place.self.each long c.loop-place.invariant.0 far (place_in phase)
