use Rattle.world_state.proofs.Common.{◌≤◌, ◌<◌, ◌++◌, ◌∷◌, ◌∙◌, [], List, ap, arith, sym, length, slice_get, take_all, drain_given, new_node, with_drain, ObjectionsValue, given_by, nodes_in, Drain, Node}
use Rattle.world_state.proofs.Given.{drain-none, drain-step, new-known}
use Rattle.world_state.proofs.objections.Objections.add.Goals as goal

pub loop-row-init : goal.loop-row-init
loop-row-init c =
    let node = c.args.node in
    let parent = c.args.parent in (
      λ phase task. c.add_to_each.ensures.nodes phase ∙ ap (λ (nodes : List Node). nodes ++ new_node node parent ∷ []) (c.in_ok-reserve.ensures.nodes phase) ∙ sym (drain-none node parent (nodes_in c.args.self.now phase) (c.requires.unknown phase)),
      λ phase. rw (c.add_to_each.ensures.nodes phase) (new-known node parent (nodes_in c.reserve.new.self phase)),
      c.add_to_each.ensures.given ∙ c.in_ok-reserve.ensures.given,
    )

pub loop-row-preserved : goal.loop-row-preserved
loop-row-preserved c =
    let row = c.loop-row.row in
    let rows = c.args.self.now.given in
    let same = c.loop-row.invariant.2 in
    let low : row < length rows = omega (arith, c.loop-row-test.true, c.len-row-end.ensures, ap (λ (o : ObjectionsValue). length o.given) c.self.view_is, ap length c.add_to_each.ensures.given, ap length c.in_ok-reserve.ensures.given) in (
      λ phase task.
          let base = nodes_in c.args.self.now phase ++ new_node c.args.node c.args.parent ∷ [] in
          drain-step rows row phase c.args.path.now c.args.node base (nodes_in c.loop-row.self phase) (nodes_in c.give.new.self phase) low (c.loop-row.invariant.0 phase task)
          (c.give.ensures.nodes phase task ∙ ap (λ (given : List Drain). given_by (slice_get given row) phase c.args.path.now c.args.node (nodes_in c.loop-row.self phase)) same),
      c.give.ensures.known,
      c.give.ensures.given ∙ same,
    )

pub returns-clause-ok : goal.returns-clause-ok
returns-clause-ok c = λ phase task.
    let row = c.loop-row.row in
    let rows = c.args.self.now.given in
    let far : length rows ≤ row = omega (arith, c.loop-row-test.false, c.len-row-end.ensures, ap (λ (o : ObjectionsValue). length o.given) c.self.view_is, ap length c.add_to_each.ensures.given, ap length c.in_ok-reserve.ensures.given) in
    c.loop-row.invariant.0 phase task ∙ ap (λ (given : List Drain). with_drain c.args.node (drain_given given phase c.args.path.now) (nodes_in c.args.self.now phase ++ new_node c.args.node c.args.parent ∷ [])) (take_all row rows far)
