-- There is no star from this place on.
use Rattle.uvm_glob.proofs.Common.{◌≡◌, drop, false, list_any, is_star}
use Rattle.uvm_glob.proofs.matching.last_part.Given as goal

abbrev pub invariant-loop-i : goal.invariant-loop-i
invariant-loop-i l = list_any is_star (drop l.i l.glob) ≡ false
