use Rattle.world_acts_tree.proofs.Common.{◌≡◌, ◌||◌, nat_lt, Bool, true, false, not, List, refl, arith, rules, nat_tests, SetDrain, OutOfRange, Phase, node_of, due_events, act_phase, in_task, is_of_phase, objections_of, most_ticks, drain_refusal, acted, refused-act_result}
use Rattle.uvm_objection.specs.Nodes.{Node}
use Rattle.world_acts_tree.proofs.Raising.{drained-events, drained-objections}
use Rattle.world_acts_tree.proofs.objections.set_drain.Goals as goal

pub returns-then-ticks-gt-MAX_TICKS : goal.returns-then-ticks-gt-MAX_TICKS
unfolding drain_refusal
returns-then-ticks-gt-MAX_TICKS c = refused-act_result _ _ _ (SetDrain c.args.ticks) OutOfRange c.refused.ensures.act_result c.refused.ensures.services (λ script history m.
    let late : nat_lt most_ticks c.args.ticks ≡ true = grind (arith, nat_tests) in
    rw late refl)

pub returns : goal.returns
unfolding drain_refusal
returns c = λ place. rw (c.done.ensures.act_result, c.done.ensures.services) (record {
  comes = λ script history s.
      let early : nat_lt most_ticks c.args.ticks ≡ false = grind (arith, nat_tests) in
      rw early refl;
  kept = record {
    same_answer = refl;
    with_entry = λ script history s.
        let m = s.known in
        let left = s.left in
        let performer = node_of c.args.services.now.answer.performer in
        let nodes : Phase → List Node = λ phase. objections_of script phase history in
        let is_set : Phase → Bool = λ phase. is_of_phase phase (act_phase history) || not (in_task (act_phase history)) in
        let is = rw (c.node-node.ensures, m.answer.phase) at c.in_ok-set_drain_in.ensures.nodes in
        let objections = drained-objections performer c.args.ticks nodes is_set c.set_drain_in.new.objections c.places_stay.ensures c.nodes_grow.ensures m.objections c.in_ok-set_drain_in.ensures.given is in
        let events = drained-events performer c.args.ticks nodes is_set (due_events script history) m.events in
        search (rules, acted);
  };
})
