-- What the part and the text have from the place on decides.
use Rattle.uvm_glob.proofs.Common.{◌≡◌, drop, fits}
use Rattle.uvm_glob.proofs.matching.fits.Given as goal

abbrev pub invariant-loop-i : goal.invariant-loop-i
invariant-loop-i l = fits (drop l.i l.part) (drop l.i l.text) ≡ fits l.part l.text
