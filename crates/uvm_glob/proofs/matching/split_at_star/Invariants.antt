-- There is no star before this place.
use Rattle.uvm_glob.proofs.Common.{◌≡◌, take, false, list_any, is_star}
use Rattle.uvm_glob.proofs.matching.split_at_star.Given as goal

abbrev pub invariant-loop-i : goal.invariant-loop-i
invariant-loop-i l = list_any is_star (take l.i l.glob) ≡ false
