use Rattle.uvm_tree.proofs.Common.{subst, CursorValue, IsNextChild, AreNodes, option_copied}
use Rattle.uvm_tree.proofs.Left.{least_child}
use Rattle.uvm_tree.proofs.children.Cursor.next_child.Goals as goal

pub returns-clause-next : goal.returns-clause-next
returns-clause-next c =
    let s = c.args.self.now in
    let after = option_copied c.last_name.result in
    let next = subst (λ (s : CursorValue). IsNextChild s.nodes s.parent after c.next_child.result) c.self.view_is c.next_child.ensures.next in
    let are = subst (λ (s : CursorValue). AreNodes s.nodes) c.self.view_is c.next_child.ensures.nodes in
    least_child s after c.next_child.result are c.last_name.ensures next
