use Rattle.world_acts_tree.proofs.Common.{◌≡◌, Some, None, false, true, ◌∷◌, refl, sym, ◌∙◌, rules, is_closed, Connect, Did, Done, IsClosedPast, IsClosing, ConnectedTooLate, nodes_of, connection_refusal, list_any, joined-kept, ends_connect, is_past_connect, wiring_of, node_below, end_below, connecting-both, both-closed, closing-next, acted, refused-act_result}
use Rattle.world_acts_tree.proofs.connections.connect.Goals as goal

pub returns-then-services : goal.returns-then-services
unfolding connection_refusal
returns-then-services c = refused-act_result _ _ _ (Connect c.args.from.now c.args.to.now) ConnectedTooLate c.refused.ensures.act_result c.refused.ensures.services (λ script history m.
    let late : is_past_connect history ≡ true = sym m.past_connect ∙ c.if-services.true in
    rw late refl)

pub returns-in-Some : goal.returns-in-Some
returns-in-Some c =
    let performer = c.args.services.now.answer.performer in
    let same = rw c.in-Some.is at c.in_ok-fatal.ensures.refused in
    let why = rw (c.in-Some.is, c.node_below-from.ensures, c.node_below-to.ensures) at c.in_ok-fatal.ensures.refusal in
    let refused = rw same at c.refused-in-Some.ensures.services in
    refused-act_result _ _ _ (Connect c.args.from.now c.args.to.now) c.in-Some.fatal c.refused-in-Some.ensures.act_result refused (λ script history m.
    let past : is_past_connect history ≡ false = sym m.past_connect ∙ c.if-services.false in
    let refuses : connection_refusal false (end_below (nodes_of history) (wiring_of history) performer c.args.from.now) (end_below (nodes_of history) (wiring_of history) performer c.args.to.now) ≡ Some c.in-Some.fatal = rw (← m.tree, ← m.connecting.ends) (sym why) in
    rw (past, refuses) refl)

pub returns-in-None : goal.returns-in-None
returns-in-None c = λ place.
    let performer = c.args.services.now.answer.performer in
    let both = rw (c.in-None.is, c.node_below-from.ensures, c.node_below-to.ensures) at c.in_ok-fatal.ensures.connected in
    let none = rw (c.in-None.is, c.node_below-from.ensures, c.node_below-to.ensures) at c.in_ok-fatal.ensures.refusal in
    rw (c.done.ensures.act_result, c.done.ensures.services) (record {
      comes = λ script history s.
          let m = s.known in
          let past : is_past_connect history ≡ false = sym m.past_connect ∙ c.if-services.false in
          let does : connection_refusal false (end_below (nodes_of history) (wiring_of history) performer c.args.from.now) (end_below (nodes_of history) (wiring_of history) performer c.args.to.now) ≡ None = rw (← m.tree, ← m.connecting.ends) (sym none) in
          rw (past, does) refl;
      kept = record {
        same_answer = refl;
        with_entry = λ script history s.
            let m = s.known in
            let left = s.left in
            let is = rw m.tree at both in
            let connecting = connecting-both c.connect_ends.new.wiring (node_below (nodes_of history) performer c.args.from.now) (node_below (nodes_of history) performer c.args.to.now) m.connecting is in
            let closed : is_closed c.connect_ends.new.wiring ≡ is_closed c.args.services.now.wiring = rw is (both-closed c.args.services.now.wiring (node_below (nodes_of history) performer c.args.from.now) (node_below (nodes_of history) performer c.args.to.now)) in
            let closing : IsClosing script (Did performer Done (Connect c.args.from.now c.args.to.now) ∷ history) (is_closed c.connect_ends.new.wiring) = rw closed (closing-next left m.closing) in
            let closed_past : IsClosedPast (list_any ends_connect history) (is_closed c.connect_ends.new.wiring) = rw closed m.closed_past in
            let joined = joined-kept performer c.args.from.now c.args.to.now m in
            let fifo_states = joined.fifo_states_are in
            let passed = joined.passed in
            let fifos_to_settle = joined.fifos_to_settle_are in
            search (rules, acted);
      };
    })
