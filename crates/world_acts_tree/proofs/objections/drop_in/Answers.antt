use Rattle.world_acts_tree.proofs.Common.{◌≡◌, ◌≤◌, nat_lt, true, false, Some, None, Err, refl, sym, ap, subst, ◌∙◌, arith, rules, filter, nat_tests, DropObjection, Did, Done, ObjectionBelowZero, node_of, dropped, source_of, total, settled, finished_of, scheduled_events, delivered_causes, is_open, act_phase, now_of, ended_of, objections_of, drop_refusal, BelowZero, nodes_in, due-dropped, IsRefusing, ObjectionsValue, acted, refused-here, settling}
use Rattle.std.specs.Result.{OnOk}
use Rattle.world_acts_tree.proofs.Raising.{drop-changes}
use Rattle.world_acts_tree.proofs.objections.drop_in.Goals as goal

pub returns-in-Err-BelowZero : goal.returns-in-Err-BelowZero
unfolding drop_refusal
returns-in-Err-BelowZero c =
    let is : c.drop.result ≡ Err BelowZero = c.in-Err-BelowZero.is ∙ ap Err c.in-Err-BelowZero.field-0-is in
    let Refusing : ObjectionsValue → Type 0 = λ o. OnOk c.refused.result (IsRefusing ObjectionBelowZero (record c.args.services.now { objections = o }) c.refused.new.services) in
    refused-here _ _ _ (DropObjection c.args.count) ObjectionBelowZero c.args.place c.refused.ensures.act_result (subst Refusing (c.drop.ensures.unchanged is) c.refused.ensures.services) (λ script history m.
    let phase = c.args.phase in
    let acts : act_phase history ≡ Some phase = sym m.answer.phase ∙ c.requires.phase in
    let performer = node_of c.args.services.now.answer.performer in
    let source = source_of performer (objections_of script phase history) in
    let below = rw (c.node-node.ensures, (m.objections.each phase c.requires.task).are) at (c.drop.ensures.below is) in
    let test : nat_lt source c.args.count ≡ true = grind (arith, nat_tests, below) in
    rw (acts, c.requires.task, test) refl)

pub returns-in_ok-move_drains-in-Ok : goal.returns-in_ok-move_drains-in-Ok
unfolding drop_refusal
returns-in_ok-move_drains-in-Ok c =
    let due = c.in_ok-move_drains-in-Ok.ensures in
    let phase = c.args.phase in
    let performer = node_of c.args.services.now.answer.performer in
    rw (c.done.ensures.act_result, c.done.ensures.services, due.rest) (record {
      comes = λ script history s.
          let m = s.known in
          let acts : act_phase history ≡ Some phase = sym m.answer.phase ∙ c.requires.phase in
          let source = source_of performer (objections_of script phase history) in
          let enough = rw (c.node-node.ensures, (m.objections.each phase c.requires.task).are) at c.in-Ok.ensures.ok in
          let test : nat_lt source c.args.count ≡ false = grind (arith, nat_tests, enough) in
          rw (acts, c.requires.task, test) refl;
      kept = record {
        same_answer = refl;
        with_entry = λ script history s.
            let m = s.known in
            let left = s.left in
            let acts : act_phase history ≡ Some phase = sym m.answer.phase ∙ c.requires.phase in
            let nodes = objections_of script phase history in
            let changed = dropped performer c.args.count nodes in
            let others = settled (now_of history) (total nodes) changed in
            let stay = c.places_stay.ensures in
            let same = stay.settled (now_of history) (total nodes) changed ∙ stay.dropped performer c.args.count nodes in
            let are = (m.objections.each phase c.requires.task).are in
            let is : nodes_in c.drop.new.self phase ≡ others = rw (c.node-node.ensures, are, m.time) at c.in-Ok.ensures.nodes in
            let begun = rw (is, are) at c.in-Ok.ensures.began in
            let over = rw (is, are) at c.in-Ok.ensures.ended in
            let grown = (c.nodes_grow.ensures.1 nodes (m.objections.each phase c.requires.task).are_nodes).dropped (now_of history) performer c.args.count in
            let low : 0 ≤ 65535 = omega arith in
            let dues = rw (← s.place_is) at (due.dues (filter (is_open (delivered_causes history) (ended_of history) (finished_of history)) (scheduled_events script history)) m.agenda.are) in
            let unended = rw acts at s.in_phase.unended in
            let drains = settling (Did c.args.services.now.answer.performer Done (DropObjection c.args.count)) phase (act_phase history) changed c.in-Ok.began None c.drop.new.self _ 0
            c.settled_go_by_totals.ensures stay c.begun_drains_are_held.ensures m acts c.requires.task (drop-changes history phase c.args.services.now.answer.performer acts script c.args.count) same is c.drop.ensures.others c.drop.ensures.given low grown
            (λ k still. due-dropped performer c.args.count nodes k) begun over unended dues in
            let agenda = drains.agenda in
            let events = drains.events in
            let objections = drains.objecting in
            search (rules, acted);
      };
    })
