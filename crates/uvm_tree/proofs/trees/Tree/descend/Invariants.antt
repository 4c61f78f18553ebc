use Rattle.uvm_tree.proofs.Common.{◌≡◌, ◌<◌, ◌++◌, length, take, between_dots, path_at}
use Rattle.uvm_tree.proofs.trees.Tree.descend.Given as goal

-- the node is at the names so far
abbrev pub invariant-loop-name : goal.invariant-loop-name
invariant-loop-name l = (l.node < length l.self.nodes) × (path_at l.self.nodes l.node ≡ path_at l.self.nodes l.fn.node ++ take (length l.yielded) (between_dots l.text))
