-- The part before the first star stands at the front, and the rest of the glob after it.
use Rattle.uvm_glob.proofs.Common.{take_rest}
use Rattle.uvm_glob.proofs.Splits.{front_part}
use Rattle.uvm_glob.proofs.matching.matches_parts.Goals as goal

pub returns-then-fits : goal.returns-then-fits
returns-then-fits c =
    let (part, rest) = c.split_at_star.result in
    let cut = c.split_at_star.ensures in
    let front = rw (← c.if-fits.ensures.value) at (front_part c.args.glob.now part.now rest.now c.args.text.now cut.whole cut.part) in
    let after = rw take_rest at c.matches_from_star.ensures in
    cc

pub returns-else-fits : goal.returns-else-fits
returns-else-fits c =
    let (part, rest) = c.split_at_star.result in
    let cut = c.split_at_star.ensures in
    let front = rw (← c.if-fits.ensures.value) at (front_part c.args.glob.now part.now rest.now c.args.text.now cut.whole cut.part) in
    cc
