-- The glob that is left begins with a star, and decides.
use Rattle.uvm_glob.proofs.Common.{◌≡◌, true, length, matches, begins_with_star}
use Rattle.uvm_glob.proofs.matching.matches_from_star.Given as goal

abbrev pub invariant-loop-star : goal.invariant-loop-star
invariant-loop-star l = record {
  at_star : begins_with_star l.glob ≡ true;
  same : matches l.glob l.text ≡ matches l.fn.glob l.fn.text;
}

abbrev pub decreases-loop-star : goal.decreases-loop-star
decreases-loop-star l = length l.glob
