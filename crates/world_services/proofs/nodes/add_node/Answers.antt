use Rattle.world_services.proofs.Common.{◌≡◌, ◌++◌, ◌∷◌, ◌∙◌, [], List, length, refl, child, path_at, Node}
use Rattle.world_services.proofs.nodes.add_node.Goals as goal

-- the newest node stands behind the others
newest-path : (nodes : List Node) (one : Node) → path_at (nodes ++ one ∷ []) (length nodes) ≡ one.path
newest-path [] one = refl
newest-path (e ∷ nodes) one = newest-path nodes one

pub returns-clause-objections : goal.returns-clause-objections
returns-clause-objections c = λ phase task.
    let nodes = c.args.tree.now.nodes in
    let path : c.path_of-path.result.now ≡ path_at nodes c.args.parent ++ c.args.name ∷ [] = rw (c.in_ok-node.ensures.id, c.in_ok-node.ensures.nodes) at c.path_of-path.ensures ∙ newest-path nodes (child nodes c.args.parent c.args.name c.args.kind) in
    rw (c.in_ok-node.ensures.id, path) at (c.in_ok-add.ensures.ok phase task)
