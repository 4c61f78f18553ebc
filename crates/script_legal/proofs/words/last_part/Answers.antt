use Rattle.std.specs.Prelude.{◌==◌}
use Rattle.std.proofs.Common.{rules, tests}
use Rattle.std.proofs.lemmas.Iterator.{items_from_drains}
use Rattle.std.proofs.lemmas.Iterator.Splits.{YieldsList-from_slice_split}
use Rattle.script_legal.proofs.Shown.{last-now}
use Rattle.script_legal.proofs.words.last_part.Goals as goal

-- the parts are those of the line
pub returns : goal.returns
returns c =
    let drained = c.last.ensures.ran.1 in
    let parts = items_from_drains c.last.ensures.ran.0 (drained.1.0, drained.1.1, λ whole. (drained.0, drained.1.2)) (YieldsList-from_slice_split _ (λ byte. byte == 32) c.args.line.now c.split-parts.ensures.rest c.split-parts.ensures.done c.split-parts.ensures.closure (λ x b q k. search (rules, tests))) in
    rw (c.unwrap_or.ensures, c.last.ensures.ran.2) (last-now c.args.line c.last.ensures.ran.0 parts)
