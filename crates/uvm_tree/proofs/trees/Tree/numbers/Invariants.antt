use Rattle.uvm_tree.proofs.Common.{◌≡◌, range_with_len}
use Rattle.uvm_tree.proofs.trees.Tree.numbers.Given as goal

-- the nodes so far
abbrev pub invariant-loop-place : goal.invariant-loop-place
invariant-loop-place l = l.numbers.items ≡ range_with_len 1 l.place
