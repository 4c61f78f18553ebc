use Rattle.uvm_tree.proofs.Common.{◌++◌, ◌∙◌, ap, number_at}
use Rattle.uvm_tree.proofs.Below.{top-path}
use Rattle.uvm_tree.proofs.Paths.{Names}
use Rattle.uvm_tree.proofs.trees.Tree.find.Goals as goal

pub returns : goal.returns
returns c =
    let nodes = c.args.self.now.nodes in
    c.find_below.ensures.node ∙ ap (λ (path : Names). number_at nodes (path ++ c.args.path.now)) (top-path nodes c.find_below.ensures.nodes)
