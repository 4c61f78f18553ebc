use Rattle.world_services.proofs.Common.{◌≡◌, ◌<◌, ℕ, true, Option, Some, sym, subst, order_of, IsComponentNode, waits}
use Rattle.world_services.proofs.Walking.{IsNextOf, left_from, next-from, start-from, step-from, left-fewer}
use Rattle.world_services.proofs.phase_cursor.PhaseCursor.first.Goals.{else-is_component-via-then-is_component+else-waits, else-is_component-via-else-is_component}
use Rattle.world_services.proofs.phase_cursor.PhaseCursor.first.Goals as goal

pub loop-next-init : goal.loop-next-init
loop-next-init c =
    let nodes = c.args.tree.now.nodes in
    let phase_cursors = c.args.self.now in
    let orders = c.nodes_are_ordered.ensures nodes c.next_in-next.ensures.nodes c.args.direction in
    next-from c.args.direction nodes phase_cursors orders c.start.result c.next_in-next.result c.next_in-next.ensures.next (start-from c.args.direction nodes phase_cursors orders c.start.result c.start.ensures)

pub loop-next-smaller : goal.loop-next-smaller
loop-next-smaller c =
    let nodes = c.args.tree.now.nodes in
    let orders = c.nodes_are_ordered.ensures nodes c.next_in-next.ensures.nodes c.args.direction in
    let here : IsNextOf (order_of c.args.direction) nodes c.args.self.now (Some c.in-Some.node) = rw c.in-Some.is at c.loop-next.invariant in
    let fewer = left-fewer c.args.direction nodes c.args.self.now orders c.in-Some.node c.next_in-next-in-Some.result here.inside.1 c.next_in-next-in-Some.ensures.next in
    subst (λ (next : Option ℕ). left_from (order_of c.args.direction) nodes c.next_in-next-in-Some.result < left_from (order_of c.args.direction) nodes next) (sym c.in-Some.is) fewer

pub loop-next-preserved : goal.loop-next-preserved
loop-next-preserved c =
    let nodes = c.args.tree.now.nodes in
    let phase_cursors = c.args.self.now in
    let orders = c.nodes_are_ordered.ensures nodes c.next_in-next.ensures.nodes c.args.direction in
    let here : IsNextOf (order_of c.args.direction) nodes phase_cursors (Some c.in-Some.node) = rw c.in-Some.is at c.loop-next.invariant in
    let other : IsComponentNode nodes c.in-Some.node → waits nodes phase_cursors c.in-Some.node ≡ true → ⊥ = λ is waits_.
    let component = c.is_component.ensures.only is.2 in
    elim c.else-is_component.branch [
      | else-is_component-via-then-is_component+else-waits w ↦ (let e = w.waits.ensures in let f = w.if-waits.false in cc)
      | else-is_component-via-else-is_component w ↦ (let f = w.if-is_component.false in cc)
    ] in
    next-from c.args.direction nodes phase_cursors orders (Some c.in-Some.node) c.next_in-next-in-Some.result c.next_in-next-in-Some.ensures.next (step-from c.args.direction nodes phase_cursors orders c.in-Some.node here other)
