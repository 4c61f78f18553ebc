-- What the glob that is left says of the text that is left, at each way out of the loop and round it.
use Rattle.uvm_glob.proofs.Common.{Some, None}
use Rattle.uvm_glob.proofs.Splits.{nothing_left, star_leaves, last_behind_star, part_behind_star}
use Rattle.uvm_glob.proofs.matching.matches_from_star.Goals as goal

pub returns-in_default-after_least : goal.returns-in_default-after_least
returns-in_default-after_least c =
    let now = c.loop-star in
    let star = star_leaves now.glob.now now.text.now c.in-Some.star.now c.in-Some.after_star.now None c.in-Some.ensures.cases.0 now.invariant.at_star c.in_default-after_least.ensures in
    cc

pub returns-then-is_empty : goal.returns-then-is_empty
returns-then-is_empty c =
    let now = c.loop-star in
    let left = c.in-Some-after_least.left.now in
    let (part, rest) = c.split_at_star.result in
    let star = star_leaves now.glob.now now.text.now c.in-Some.star.now c.in-Some.after_star.now (Some left) c.in-Some.ensures.cases.0 now.invariant.at_star c.in-Some-after_least.ensures in
    let last = last_behind_star c.in-Some.after_star.now part.now rest.now left c.split_at_star.ensures.whole c.split_at_star.ensures.part c.if-is_empty.ensures in
    cc

pub returns-in_default-after_first_fit : goal.returns-in_default-after_first_fit
returns-in_default-after_first_fit c =
    let now = c.loop-star in
    let left = c.in-Some-after_least.left.now in
    let (part, rest) = c.split_at_star.result in
    let cut = c.split_at_star.ensures in
    let star = star_leaves now.glob.now now.text.now c.in-Some.star.now c.in-Some.after_star.now (Some left) c.in-Some.ensures.cases.0 now.invariant.at_star c.in-Some-after_least.ensures in
    let nowhere = part_behind_star c.in-Some.after_star.now part.now rest.now left None cut.whole cut.part cut.rest c.if-is_empty.ensures c.in_default-after_first_fit.ensures in
    cc

pub loop-star-preserved : goal.loop-star-preserved
loop-star-preserved c =
    let now = c.loop-star in
    let left = c.in-Some-after_least.left.now in
    let (part, rest) = c.split_at_star.result in
    let cut = c.split_at_star.ensures in
    let star = star_leaves now.glob.now now.text.now c.in-Some.star.now c.in-Some.after_star.now (Some left) c.in-Some.ensures.cases.0 now.invariant.at_star c.in-Some-after_least.ensures in
    let first = part_behind_star c.in-Some.after_star.now part.now rest.now left (Some c.in-Some-after_first_fit.left.now) cut.whole cut.part cut.rest c.if-is_empty.ensures c.in-Some-after_first_fit.ensures in
    record { at_star = cut.rest; same = cc }

pub returns : goal.returns
returns c =
    let nothing = nothing_left c.loop-star.glob.now c.loop-star.text.now c.in_default.ensures.cases in
    cc
