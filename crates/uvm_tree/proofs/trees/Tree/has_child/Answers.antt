use Rattle.uvm_tree.proofs.Common.{◌≡◌, ◌∷◌, ◌∙◌, List, is_some, subst, ap, list_any, Node, is_child}
use Rattle.uvm_tree.proofs.Finding.{has-child}
use Rattle.uvm_tree.proofs.trees.Tree.has_child.Goals as goal

pub returns : goal.returns
returns c =
    let nodes = c.families.result.top.now ∷ c.families.result.nodes.now in
    let found = has-child nodes c.families.ensures.tree c.args.parent c.as_bytes.result.now c.child.result c.child.ensures.found c.child.ensures.none in
    let whole = subst (λ (nodes : List Node). is_some c.child.result ≡ list_any (is_child c.args.parent c.as_bytes.result.now) nodes) c.families.ensures.nodes found in
    c.is_some.ensures ∙ whole ∙ ap (λ name. list_any (is_child c.args.parent name) c.args.self.now.nodes) c.as_bytes.ensures.value
