use Rattle.uvm_tree.proofs.Common.{◌∷◌, ◌++◌, ◌∙◌, [], number_at, path_at}
use Rattle.uvm_tree.proofs.Sound.{found_sound}
use Rattle.uvm_tree.proofs.trees.Tree.child.Goals as goal

pub returns-clause-sound : goal.returns-clause-sound
returns-clause-sound c =
    let nodes = c.args.self.now.nodes in
    found_sound nodes c.node_or_top.ensures.nodes c.node_or_top.ensures.sound (path_at nodes c.args.node ++ c.args.name.now ∷ []) c.child_of.result
    (c.child_of.ensures.child ∙ (λ i. number_at nodes (c.node_or_top.ensures.path i ++ c.as_bytes.ensures.value i ∷ [])))
