use Rattle.world_state.proofs.Common.{◌≡◌, ◌∙◌, ◌<◌, ap, arith, get_or, length, List, subst, sym, Some, slice_get, CanDrain, HasOwnPlace, ObjectionsValue, nodes_at, place_in, Drain}
use Rattle.world_state.proofs.Given.{row-at, row-is, row-knows, row-leaves, row-sets}
use Rattle.world_state.proofs.objections.Objections.give.Goals as goal

pub set_drain_at-requires-clause-limit : goal.set_drain_at-requires-clause-limit
unfolding CanDrain
set_drain_at-requires-clause-limit c =
    let rows = c.self.inside.given.items in
    let low : c.args.row < length rows = omega (arith, c.requires.within, ap (λ (o : ObjectionsValue). length o.given) c.self.view_is) in
    let is = c.in-Some.ensures.lookup.1 ∙ ap (λ (rows : List Drain). get_or rows c.args.row c.in-Some.drain.now) c.deref.ensures.value in
    (row-is CanDrain rows c.args.row c.in-Some.drain.now low is c.self.invariant.sound).1

pub returns-then-eq-clause-nodes : goal.returns-then-eq-clause-nodes
unfolding CanDrain
returns-then-eq-clause-nodes c = λ phase task.
    let rows = c.self.inside.given.items in
    let drain = c.in-Some.drain.now in
    let low : c.args.row < length rows = omega (arith, c.requires.within, ap (λ (o : ObjectionsValue). length o.given) c.self.view_is) in
    let is = c.in-Some.ensures.lookup.1 ∙ ap (λ (rows : List Drain). get_or rows c.args.row drain) c.deref.ensures.value in
    let found : slice_get c.args.self.now.given c.args.row ≡ Some drain = ap (λ (o : ObjectionsValue). slice_get o.given c.args.row) (sym c.self.view_is) ∙ row-at rows c.args.row drain low is in
    let takes = (row-is CanDrain rows c.args.row drain low is c.self.invariant.sound).0 in
    let own = row-is (λ (drain : Drain). HasOwnPlace (place_in drain.phase) c.self.inside.each.items) rows c.args.row drain low is c.self.invariant.own in
    row-sets c.args.self.now.given c.args.row drain c.args.path.now c.place_in-place.result c.args.node c.args.self.now.each c.set_drain_at.new.self.each found (sym c.eq.ensures ∙ c.if-eq.true) takes c.place_in-place.ensures.place
    (subst (λ (o : ObjectionsValue). HasOwnPlace (place_in drain.phase) o.each) c.self.view_is own) c.set_drain_at.ensures.nodes c.set_drain_at.ensures.others phase task

pub returns-then-eq-clause-known : goal.returns-then-eq-clause-known
returns-then-eq-clause-known c = λ phase.
    let rows = c.self.inside.given.items in
    let drain = c.in-Some.drain.now in
    let low : c.args.row < length rows = omega (arith, c.requires.within, ap (λ (o : ObjectionsValue). length o.given) c.self.view_is) in
    let is = c.in-Some.ensures.lookup.1 ∙ ap (λ (rows : List Drain). get_or rows c.args.row drain) c.deref.ensures.value in
    let own = row-is (λ (drain : Drain). HasOwnPlace (place_in drain.phase) c.self.inside.each.items) rows c.args.row drain low is c.self.invariant.own in
    rw (row-knows drain c.args.node c.place_in-place.result c.args.node c.args.self.now.each c.set_drain_at.new.self.each c.place_in-place.ensures.place
    (subst (λ (o : ObjectionsValue). HasOwnPlace (place_in drain.phase) o.each) c.self.view_is own) c.set_drain_at.ensures.nodes c.set_drain_at.ensures.others phase) (c.requires.known phase)

pub returns-else-eq-clause-nodes : goal.returns-else-eq-clause-nodes
returns-else-eq-clause-nodes c = λ phase task.
    let rows = c.self.inside.given.items in
    let drain = c.in-Some.drain.now in
    let low : c.args.row < length rows = omega (arith, c.requires.within, ap (λ (o : ObjectionsValue). length o.given) c.self.view_is) in
    let is = c.in-Some.ensures.lookup.1 ∙ ap (λ (rows : List Drain). get_or rows c.args.row drain) c.deref.ensures.value in
    let found : slice_get c.args.self.now.given c.args.row ≡ Some drain = ap (λ (o : ObjectionsValue). slice_get o.given c.args.row) (sym c.self.view_is) ∙ row-at rows c.args.row drain low is in
    row-leaves c.args.self.now.given c.args.row drain c.args.path.now c.args.node (nodes_at c.args.self.now.each (place_in phase)) found (sym c.eq.ensures ∙ c.if-eq.false) phase
