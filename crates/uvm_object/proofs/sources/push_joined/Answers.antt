use Rattle.std.proofs.Common.{◌≡◌, ◌++◌, ◌≤◌, length, drop, arith}
use Rattle.std.specs.List.{flat_map}
use Rattle.uvm_object.proofs.Joined.{behind_dot, ends, ends-printed}
use Rattle.uvm_object.proofs.sources.push_joined.Goals as goal

-- the text
pub returns-clause-text : goal.returns-clause-text
returns-clause-text c =
    let over : length c.in-Some.others.now ≤ c.loop-name.name-index = omega arith in
    let before = c.args.line.now.items in
    let first = c.in-Some.first.now in
    let others = c.in-Some.others.now in
    let left : c.loop-name.line.items ++ flat_map behind_dot (drop c.loop-name.name-index others) ≡ (before ++ first) ++ flat_map behind_dot others = rw (c.in_ok-extend_from_slice.ensures.items, c.as_bytes.ensures.value) at c.loop-name.invariant.0 in
    ends before c.loop-name.line.items first c.args.names.now others c.loop-name.name-index c.in-Some.ensures.cases.0 over left

-- and each name is printed
pub returns-clause-printed : goal.returns-clause-printed
returns-clause-printed c =
    let over : length c.in-Some.others.now ≤ c.loop-name.name-index = omega arith in
    ends-printed c.in-Some.first.now c.args.names.now c.in-Some.others.now c.loop-name.name-index c.in-Some.ensures.cases.0 over c.as_bytes.ensures.printed c.loop-name.invariant.1
