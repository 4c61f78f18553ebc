use Rattle.world_acts_tree.proofs.Common.{◌≡◌, ◌≤◌, true, Some, None, refl, sym, ◌∙◌, arith, rules, filter, RaiseObjection, Did, Done, node_of, raised, total, settled, finished_of, scheduled_events, delivered_causes, is_open, act_phase, now_of, ended_of, in_task, objections_of, raise_refusal, nodes_in, due-raised, acted, settling}
use Rattle.world_acts_tree.proofs.Raising.{raise-changes}
use Rattle.world_acts_tree.proofs.objections.raise_in.Goals as goal

pub returns : goal.returns
unfolding raise_refusal
returns c =
    let due = c.in_ok-move_drains.ensures in
    let phase = c.args.phase in
    let performer = node_of c.args.services.now.answer.performer in
    rw (c.done.ensures.act_result, c.done.ensures.services, due.rest) (record {
      comes = λ script history s.
          let within : in_task (act_phase history) ≡ true = rw (← s.known.answer.phase, c.requires.phase) c.requires.task in
          rw within refl;
      kept = record {
        same_answer = refl;
        with_entry = λ script history s.
            let m = s.known in
            let left = s.left in
            let acts : act_phase history ≡ Some phase = sym m.answer.phase ∙ c.requires.phase in
            let nodes = objections_of script phase history in
            let changed = raised performer c.args.count nodes in
            let others = settled (now_of history) (total nodes) changed in
            let stay = c.places_stay.ensures in
            let same = stay.settled (now_of history) (total nodes) changed ∙ stay.raised performer c.args.count nodes in
            let are = (m.objections.each phase c.requires.task).are in
            let is : nodes_in c.raise.new.self phase ≡ others = rw (c.node-node.ensures, are) at (c.in_ok-ended.ensures.nodes (now_of history)) in
            let begun = rw (is, are) at c.in_ok-ended.ensures.began in
            let over = rw (is, are) at c.in_ok-ended.ensures.ended in
            let grown = (c.nodes_grow.ensures.1 nodes (m.objections.each phase c.requires.task).are_nodes).raised (now_of history) performer c.args.count in
            let low : c.args.count ≤ 65535 = omega arith in
            let dues = due.dues (filter (is_open (delivered_causes history) (ended_of history) (finished_of history)) (scheduled_events script history)) m.agenda.are in
            let unended = rw acts at s.in_phase.unended in
            let drains = settling (Did c.args.services.now.answer.performer Done (RaiseObjection c.args.count)) phase (act_phase history) changed None c.in_ok-ended.ended c.raise.new.self _ c.args.count
            c.settled_go_by_totals.ensures stay c.begun_drains_are_held.ensures m acts c.requires.task (raise-changes history phase c.args.services.now.answer.performer acts script c.args.count) same is c.in_ok-ended.ensures.others c.in_ok-ended.ensures.given low grown
            (λ k still. due-raised performer c.args.count nodes k) begun over unended dues in
            let agenda = drains.agenda in
            let events = drains.events in
            let objections = drains.objecting in
            search (rules, acted);
      };
    })
