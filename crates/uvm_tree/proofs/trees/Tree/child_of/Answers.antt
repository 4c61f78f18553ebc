use Rattle.uvm_tree.proofs.Common.{◌≡◌, ◌∷◌, ◌++◌, ◌<◌, [], List, length, subst, sym, Node, number_at, path_at}
use Rattle.uvm_tree.proofs.Finding.{child-number}
use Rattle.uvm_tree.proofs.trees.Tree.child_of.Goals as goal

pub returns-clause-child : goal.returns-clause-child
returns-clause-child c =
    let nodes = c.families.result.top.now ∷ c.families.result.nodes.now in
    let there = subst (λ (nodes : List Node). c.args.parent < length nodes) (sym c.families.ensures.nodes) c.requires in
    subst (λ (nodes : List Node). c.child.result ≡ number_at nodes (path_at nodes c.args.parent ++ c.args.name.now ∷ [])) c.families.ensures.nodes
    (child-number nodes c.families.ensures.tree c.args.parent c.args.name.now there c.child.result c.child.ensures.found c.child.ensures.none)
