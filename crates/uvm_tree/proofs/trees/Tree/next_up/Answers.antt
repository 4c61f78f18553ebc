use Rattle.uvm_tree.proofs.Common.{Option, ℕ, subst, sym, up_cmp, IsLeast, is_before, nodes_after}
use Rattle.uvm_tree.proofs.trees.Tree.next_up.Goals as goal

pub returns-in-Some-clause-next : goal.returns-in-Some-clause-next
returns-in-Some-clause-next c =
    let nodes = c.args.self.now.nodes in
    subst (λ (after : Option ℕ). IsLeast (is_before up_cmp nodes) (nodes_after up_cmp nodes after) c.next_up_after.result) (sym c.in-Some.is) c.next_up_after.ensures.next
