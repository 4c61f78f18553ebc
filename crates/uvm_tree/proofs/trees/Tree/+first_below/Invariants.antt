use Rattle.uvm_tree.proofs.Common.{◌-◌, length}
use Rattle.uvm_tree.proofs.trees.Tree.+first_below.Given as goal

-- a child stands behind its parent
abbrev pub decreases-first_below : goal.decreases-first_below
decreases-first_below l = length l.self.now.nodes - l.node
