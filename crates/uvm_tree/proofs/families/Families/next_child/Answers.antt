use Rattle.uvm_tree.proofs.Common.{◌∷◌, Option, ℕ, subst, sym, IsNextChild, option_copied}
use Rattle.uvm_tree.proofs.Standing.{next_child}
use Rattle.uvm_tree.proofs.families.Families.next_child.Goals as goal

pub returns : goal.returns
returns c =
    let s = c.args.self.now in
    let nodes = s.top.now ∷ s.nodes.now in
    let after = option_copied c.args.after in
    subst (λ (found : Option ℕ). IsNextChild nodes c.args.parent after found) (sym c.child_in.ensures)
    (next_child nodes s.order.now c.requires.nodes c.requires.families c.args.parent after c.count_passed.result c.count_passed.ensures)
