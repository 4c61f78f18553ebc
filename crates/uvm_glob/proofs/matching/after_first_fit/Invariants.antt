-- What the text has from this place on decides.
use Rattle.uvm_glob.proofs.Common.{◌≡◌, drop, after_first_fit}
use Rattle.uvm_glob.proofs.matching.after_first_fit.Given as goal

abbrev pub invariant-loop-place : goal.invariant-loop-place
invariant-loop-place l = after_first_fit l.part (drop l.place l.text) ≡ after_first_fit l.part l.text
