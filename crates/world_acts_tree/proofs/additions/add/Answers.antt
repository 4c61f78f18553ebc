use Rattle.world_acts_tree.proofs.Common.{ℕ, true, ◌≡◌, ◌<◌, [], List, ◌∷◌, ◌++◌, length, arith, Some, None, sym, ◌∙◌, refl, rules, child, node_of, Add, Phase, is_task, nodes_of, kind_of, is_built, performer_of, due_events, given_below, objections_of, with_new, events-all, held-made, addition_refusal, length-snoc, phase_cursors-more, objectings-more, connecting-more, closing-next, IsClosedPast, IsClosing, list_any, fifo_size, end_of, ends_connect, wiring_of, arbitrating-added, none-locked, none-served, added-kept, is_closed, Did, Done, acted, refused-act_result}
use Rattle.uvm_objection.specs.Nodes as objection
use Rattle.world_acts_tree.proofs.additions.add.Goals as goal

pub returns-in-Some : goal.returns-in-Some
returns-in-Some c = refused-act_result _ _ _ (Add c.args.name c.args.what) c.in-Some.fatal c.refused.ensures.act_result c.refused.ensures.services (λ script history m.
    let refuses : addition_refusal (is_built history) (nodes_of history) (node_of c.args.services.now.answer.performer) c.args.name ≡ Some c.in-Some.fatal = rw (← m.built, ← m.tree) (sym c.addition_refusal.ensures.refusal ∙ c.in-Some.is) in
    rw refuses refl)

pub returns : goal.returns
returns c = λ place. rw (c.done.ensures.act_result, c.done.ensures.services) (record {
  comes = λ script history s.
      let does : addition_refusal (is_built history) (nodes_of history) (node_of c.args.services.now.answer.performer) c.args.name ≡ None = rw (← s.known.built, ← s.known.tree) (sym c.in_default.ensures.refusal) in
      rw does refl;
  kept = record {
    same_answer = refl;
    with_entry = λ script history s.
        let m = s.known in
        let left = s.left in
        let added = child (nodes_of history) (node_of c.args.services.now.answer.performer) c.args.name (kind_of c.args.what) in
        let performer = node_of c.args.services.now.answer.performer in
        let tree = rw (c.node-parent.ensures, c.kind_of.ensures, m.tree) at c.in_ok-node.ensures.nodes in
        let phase_cursors = phase_cursors-more added m.phase_cursors in
        let longer = length-snoc (nodes_of history) added in
        let speaks : node_of (performer_of history) < length (nodes_of history ++ added ∷ []) = omega (arith, m.speaks, longer) in
        let below : performer < length (nodes_of history) = rw m.answer.performer m.speaks in
        let given : Phase → ℕ = λ phase. given_below script phase history c.args.services.now.answer.performer c.args.name in
        let is = λ (phase : Phase) (task : is_task phase ≡ true). rw (c.node-parent.ensures, m.tree, m.objections.given) at (c.in_ok-node.ensures.objections phase task) in
        let grown : Phase → List objection.Node = λ phase. with_new performer (given phase) (objections_of script phase history) in
        let events = events-all (λ phase. objections_of script phase history) grown (due_events script history) (λ phase node at. held-made performer (given phase) node at (objections_of script phase history)) m.events in
        let open_ = c.requires.building c.in_default.ensures.building in
        let some : 0 < length (nodes_of history) = omega (arith, m.speaks) in
        let wired = rw (c.in_ok-node.ensures.id, m.tree) at c.in_ok-add_end.ensures in
        let connecting = connecting-more c.add_end.new.wiring added (end_of c.args.what) open_ some m.connecting wired in
        let closing : IsClosing script (Did c.args.services.now.answer.performer Done (Add c.args.name c.args.what) ∷ history) (is_closed c.add_end.new.wiring) = rw wired (closing-next left m.closing) in
        let objections = objectings-more c.add_node.new.objections performer given c.places_stay.ensures c.nodes_grow.ensures below m.objections longer c.in_ok-node.ensures.given is in
        let closed_past : IsClosedPast (list_any ends_connect history) (is_closed c.add_end.new.wiring) = rw wired m.closed_past in
        let unused : fifo_size (wiring_of history) (length (nodes_of history)) ≡ None = rw (← m.tree, ← m.connecting.ends, c.requires.unused) refl in
        let adds = rw (c.in_ok-node.ensures.id, m.tree) at c.in_ok-add_fifo_state.ensures in
        let kept = added-kept {new = c.add_fifo_state.new.fifo_states} c.args.services.now.answer.performer c.args.name c.args.what m s.settled.unpassed unused adds c.clear.ensures.items in
        let fifo_states = kept.fifo_states_are in
        let passed = kept.passed in
        let fifos_to_settle = kept.fifos_to_settle_are in
        let adding = rw (c.in_ok-node.ensures.id, m.tree) at c.in_ok-add_arbiter.ensures in
        let contested = rw (c.in_ok-node.ensures.id, m.tree) at c.in_ok-add.ensures.added in
        let arbitrating = arbitrating-added history c.args.services.now.answer.performer c.args.name c.args.what {new = c.add_arbiter.new.arbiters} some longer adding (none-locked history m.arbitrating.contested_is s.settled.unlocked) (none-served history m.arbitrating.contested_is s.settled.unserved) c.in_ok-add.ensures.nodes contested m.arbitrating in
        search (rules, acted);
  };
})
