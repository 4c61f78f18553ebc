use Rattle.world_entries.proofs.Common.{None, refl, rules, ◌≡◌, ◌∙◌, ap, arith, ℕ, List, subst, sym, Some, Heard, nodes_of, test_creation, stage_of, components_of, phase_heard, later, GrantIndex, known_at, arbitrating-grown, none-locked, none-served, node_of, Call, Phase, ArePhaseCursors, IsHeardInPhaseCursors}
use Rattle.world_entries.proofs.Heard.{there-within, heard-answer, heard-phase_cursors, called_in}
use Rattle.world_entries.proofs.answers.hear_in_turn.Goals as goal
use Rattle.uvm_acts.specs.declared.acts.Call.TheVariants as calls

pub returns : goal.returns
returns c = λ acts many script before coming m.
    let call = c.args.call.now in
    let stays = c.wiring_stays.ensures script before (Heard c.args.who None call acts) (rw coming.next (_, refl)) in
    let asked = c.asked_are_there.ensures script before c.args.who call None coming.each coming.next in
    let homes = c.homes_are_nodes.ensures script before coming.each in
    let speaks = there-within before c.args.who asked homes m.phase_cursors in
    let turn = c.calls_go_in_turn.ensures script before c.args.who call coming.next in
    let tree = c.nodes_are_a_tree.ensures script before coming.each in
    let phase_is : c.phase_called-phase.result ≡ Some turn.phase = c.phase_called-phase.ensures ∙ ap (λ (one : Call). phase_heard one None) turn.call_is in
    let heard : IsHeardInPhaseCursors turn.phase (node_of c.args.who) c.args.services.now.phase_cursors c.hear_call.new.phase_cursors = rw (c.node.ensures, phase_is) at c.hear_call.ensures in
    let called : called_in call (node_of c.args.who) before ≡ called_in (calls.Phase turn.phase) (node_of c.args.who) before = ap (λ (one : Call). called_in one (node_of c.args.who) before) turn.call_is in
    let phase_cursors =
    subst (λ (called : Phase → List ℕ). ArePhaseCursors (stage_of before) (nodes_of before) (components_of before) called c.hear_call.new.phase_cursors) (sym called)
    (heard-phase_cursors before c.args.who turn.phase turn.going turn.next (c.nodes_are_ordered.ensures (nodes_of before) tree) c.least_is_least.ensures m.phase_cursors heard) in
    let settled = c.answers_are_settled.ensures script before c.args.who call None coming.next in
    let arbitrating = arbitrating-grown {after = c.close.new.self} (nodes_of before) (omega arith) c.close.ensures.nodes (λ n. ap (λ (one : GrantIndex). known_at one n) c.close.ensures.rest) (none-locked before m.arbitrating.contested_is settled.unlocked) (none-served before m.arbitrating.contested_is settled.unserved) m.arbitrating in
    let answer = rw (← c.answer_cursor-services.ensures) at (rw (coming.place_is, many) at (heard-answer (test_creation script) before c.args.who call None acts c.phase_called-phase.result c.phase_called-phase.ensures)) in
    search (rules, later)
