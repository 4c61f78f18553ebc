-- The last part of the glob stands at the end of each text that it matches.
use Rattle.uvm_glob.proofs.Common.{◌≡◌, false, length, ◌-◌, sym, ◌∙◌, matches}
use Rattle.uvm_glob.proofs.Ends.{ends_otherwise}
use Rattle.uvm_glob.proofs.Meaning.{matches_means}
use Rattle.uvm_glob.proofs.matching.matches_text.Goals as goal

pub returns-then-fits_at_end : goal.returns-then-fits_at_end
returns-then-fits_at_end c =
    record { value = c.matches_parts.ensures; meaning = rw c.matches_parts.ensures (matches_means c.args.glob.now c.args.text.now) }

pub returns-else-fits_at_end : goal.returns-else-fits_at_end
returns-else-fits_at_end c =
    let part = c.last_part.result.now in
    let cut = c.last_part.ensures in
    let otherwise : matches c.args.glob.now c.args.text.now ≡ false =
    ends_otherwise c.args.glob.now part c.args.text.now (length c.args.glob.now - length part) cut.end cut.part (sym c.fits_at_end.ensures ∙ c.if-fits_at_end.false) in
    let value : c.fits_at_end.result ≡ matches c.args.glob.now c.args.text.now = c.if-fits_at_end.false ∙ sym otherwise in
    record { value = value; meaning = rw value (matches_means c.args.glob.now c.args.text.now) }
