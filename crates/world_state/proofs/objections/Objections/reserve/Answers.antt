use Rattle.world_state.proofs.Common.{◌∙◌, ◌<◌, ◌≤◌, ap, arith, length, ObjectionsValue, place_in, spare_at}
use Rattle.world_state.proofs.Placed.{at-place}
use Rattle.world_state.proofs.Listed.{nodes-kept, room-all, room-more, spare-kept}
use Rattle.world_state.proofs.objections.Objections.reserve.Goals as goal

pub loop-place-preserved : goal.loop-place-preserved
loop-place-preserved c =
    let e = c.in_ok-reserve_at.ensures in
    let long : 2 ≤ length c.args.self.now.each = rw (← c.self.view_is) c.self.invariant.least in
    let less : c.loop-place.place < length c.loop-place.self.each = omega (arith, ap (λ (o : ObjectionsValue). length o.each) c.self.view_is, c.loop-place.invariant.0.count) in
    (room-more c.loop-place.place c.args.self.now.each c.loop-place.self.each c.reserve_at.new.self.each long c.loop-place.invariant.0 less e.nodes e.spare e.kept e.others e.count, e.given ∙ c.loop-place.invariant.1)

pub returns-in_err-reserve_at-clause-nodes : goal.returns-in_err-reserve_at-clause-nodes
returns-in_err-reserve_at-clause-nodes c = λ phase.
    let e = c.in_err-reserve_at.ensures in
    let long : 2 ≤ length c.args.self.now.each = rw (← c.self.view_is) c.self.invariant.least in
    nodes-kept c.loop-place.place c.args.self.now.each c.loop-place.self.each c.reserve_at.new.self.each long c.loop-place.invariant.0 e.nodes e.others e.count (place_in phase)

pub returns-in_err-reserve_at-clause-room : goal.returns-in_err-reserve_at-clause-room
returns-in_err-reserve_at-clause-room c = λ all.
    let place = c.loop-place.place in
    let most = c.self.invariant.most in
    let some : 0 < spare_at c.args.self.now.each place = at-place (λ n. 0 < spare_at c.args.self.now.each n) all place (omega (arith, most)) in
    let more = c.loop-place.invariant.0.kept place in
    let here : 0 < spare_at c.loop-place.self.each place = omega (arith, some, more) in
    let clash = c.in_err-reserve_at.ensures.room here in
    cc

pub returns-in_err-reserve_at-clause-kept : goal.returns-in_err-reserve_at-clause-kept
returns-in_err-reserve_at-clause-kept c = λ phase.
    let e = c.in_err-reserve_at.ensures in
    let long : 2 ≤ length c.args.self.now.each = rw (← c.self.view_is) c.self.invariant.least in
    spare-kept c.loop-place.place c.args.self.now.each c.loop-place.self.each c.reserve_at.new.self.each long c.loop-place.invariant.0 e.kept e.others e.count (place_in phase)

pub returns-clause-spare : goal.returns-clause-spare
returns-clause-spare c = λ phase.
    let long : 2 ≤ length c.args.self.now.each = rw (← c.self.view_is) c.self.invariant.least in
    let far : length c.args.self.now.each ≤ c.loop-place.place = omega (arith, ap (λ (o : ObjectionsValue). length o.each) c.self.view_is) in
    room-all c.loop-place.place c.args.self.now.each c.loop-place.self.each long c.loop-place.invariant.0 far (place_in phase)
