use Rattle.world_acts_tree.proofs.Common.{refl, rules, acted}
use Rattle.world_acts_tree.proofs.reports.set_verbosity.Goals as goal

pub returns : goal.returns
returns c = λ place. rw c.done.ensures (record {
  comes = λ script history s. refl;
  kept = record {
    same_answer = refl;
    with_entry = λ script history s.
        let m = s.known in
        let left = s.left in
        let report_state = rw (c.in_ok-scope.ensures, c.node.ensures, m.tree) at (c.in_ok-set_verbosity.ensures _ _ m.report_state) in
        search (rules, acted);
  };
})
