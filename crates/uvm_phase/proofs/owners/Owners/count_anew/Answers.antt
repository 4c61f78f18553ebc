use Rattle.uvm_phase.proofs.Common.{rules, ◌<◌, ◌^◌, length, take, arith, length_push, length-take-le, YieldsList-turn, YieldsList-from_deque, owners_of}
use Rattle.uvm_phase.proofs.Owning.{count-le, counted-further}
use Rattle.uvm_phase.proofs.owners.Owners.count_anew.Goals as goal

pub add-requires : goal.add-requires
add-requires g c =
    let items = c.args.dues.now.items in
    let k = length c.loop-due.yielded in
    let t = YieldsList-turn (YieldsList-from_deque items c.into_iter-due-iterator.ensures.into_iter_gives.0) c.loop-due.yielded _ c.loop-due.yielded_by _ _ c.in-Some.due c.in-Some.is c.next.ensures.steps in
    let fits : length items < 2 ^ 64 = search rules in
    let long = length-take-le k items (omega (arith, t.0)) in
    λ complete.
    let le = count-le g.O.PartialEq.eq c.loop-due.self c.in-Some.due.now.owner (take k items) c.loop-due.invariant.2 complete in
    omega (arith, le, long, fits, t.0)

pub loop-due-preserved : goal.loop-due-preserved
loop-due-preserved g c =
    let items = c.args.dues.now.items in
    let k = length c.loop-due.yielded in
    let t = YieldsList-turn (YieldsList-from_deque items c.into_iter-due-iterator.ensures.into_iter_gives.0) c.loop-due.yielded _ c.loop-due.yielded_by _ _ c.in-Some.due c.in-Some.is c.next.ensures.steps in
    let counts = c.add.ensures.counts (owners_of (take k items)) c.loop-due.invariant.2 in
    (tt, tt, rw (length_push c.loop-due.yielded c.in-Some.due) (counted-further g.O.PartialEq.eq c.add.new.self items k c.in-Some.due.now t.0 t.1 counts))
