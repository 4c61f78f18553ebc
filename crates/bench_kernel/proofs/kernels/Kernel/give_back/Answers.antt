use Rattle.bench_kernel.proofs.Common.{nodes_of, failed_of}
use Rattle.bench_kernel.proofs.Given.{first-held, given-first, given-held, gives-component, gives-sequence}
use Rattle.bench_kernel.proofs.Sitting.{first-sequence}
use Rattle.bench_kernel.proofs.kernels.Kernel.give_back.Goals as goal

pub invariant_of-self : goal.invariant_of-self
invariant_of-self g c =
    let m = g.O.UvmObject in
    let k = c.self.inside in
    let popped = c.pop_first.new.self in
    gives-sequence m.view m.name m.says k.core (failed_of k.abandoned k.unknown k.core.health) k.unknown k.seats.taken k.sequences.count popped.count k.sequences.held popped.held c.in-Some.back
    (rw (← c.self.view_is) at c.requires) c.pop_first.ensures.count c.in-Some.ensures.some c.self.invariant

pub returns-in-Some-clause-some : goal.returns-in-Some-clause-some
returns-in-Some-clause-some g c =
    let k = c.self.inside in
    rw (← c.self.view_is) (first-held k.seats.taken c.in-Some.back k.sequences.held c.pop_first.new.self.held c.in-Some.ensures.some)

pub returns-in-Some-clause-first : goal.returns-in-Some-clause-first
returns-in-Some-clause-first g c =
    let k = c.self.inside in
    rw (← c.self.view_is) (first-sequence (nodes_of k.core.history) k.sequences.count c.in-Some.back k.seats.taken k.sequences.held c.pop_first.new.self.held c.in-Some.ensures.some c.self.invariant.1.rising)

pub invariant_of-self-2 : goal.invariant_of-self-2
invariant_of-self-2 g c =
    let m = g.O.UvmObject in
    let k = c.self.inside in
    let still = c.pop_first.new.self in
    gives-component m.view m.name m.says k.core (failed_of k.abandoned k.unknown k.core.health) k.unknown k.seats.taken c.pop_first-2.new.self.taken k.sequences.count still.count k.sequences.held still.held c.pop_first-2.result
    (rw (← c.self.view_is) at c.requires) c.pop_first.ensures.count c.in_default.ensures.unchanged c.pop_first-2.ensures.some c.pop_first-2.ensures.unchanged c.self.invariant

pub returns-clause-some : goal.returns-clause-some
returns-clause-some g c =
    let k = c.self.inside in
    rw (← c.self.view_is) (given-held k.seats.taken c.pop_first-2.new.self.taken k.sequences.held c.pop_first.new.self.held c.pop_first-2.result c.in_default.ensures.unchanged c.pop_first-2.ensures.some)

pub returns-clause-first : goal.returns-clause-first
returns-clause-first g c =
    let k = c.self.inside in
    rw (← c.self.view_is)
    (given-first k.core.history k.seats.taken c.pop_first-2.new.self.taken k.sequences.count k.sequences.held c.pop_first.new.self.held c.pop_first-2.result c.in_default.ensures.none c.in_default.ensures.unchanged c.pop_first-2.ensures.some c.self.invariant.1)
