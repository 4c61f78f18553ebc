-- The rests of the two texts first differ as the texts do.
use Rattle.uvm_glob.proofs.Common.{◌≡◌, length, first_difference}
use Rattle.uvm_glob.proofs.orders.first_difference.Given as goal

abbrev pub invariant-loop-mine : goal.invariant-loop-mine
invariant-loop-mine l = first_difference l.mine l.other ≡ first_difference l.fn.mine l.fn.other

abbrev pub decreases-loop-mine : goal.decreases-loop-mine
decreases-loop-mine l = length l.mine
