use Rattle.uvm_tree.proofs.trees.Tree.+next_beside.Given as goal

-- a parent stands before its children
abbrev pub decreases-next_beside : goal.decreases-next_beside
decreases-next_beside l = l.node
