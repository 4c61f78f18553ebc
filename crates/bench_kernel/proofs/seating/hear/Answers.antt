use Rattle.bench_kernel.proofs.Common.{held_in}
use Rattle.bench_kernel.proofs.Sitting.{asked-before, asked-behind, component-sits, sequence-sits}
use Rattle.bench_kernel.proofs.seating.hear.Goals as goal

pub hear-requires : goal.hear-requires
hear-requires g c =
    let sequences = c.args.sequences.now in
    rw c.in-Node.is (component-sits c.args.seats.now.taken sequences.held sequences.count c.in-Node.field-0 c.requires.rising (rw c.in-Node.is at (c.requires.sits)))

pub hear-requires-in-Sequence : goal.hear-requires-in-Sequence
hear-requires-in-Sequence g c =
    rw c.in-Sequence.is (sequence-sits c.args.seats.now.taken c.args.sequences.now.held c.in-Sequence.id c.in-Sequence.home (rw c.in-Sequence.is at (c.requires.sits)))

pub returns-in-Node-clause-asked : goal.returns-in-Node-clause-asked
returns-in-Node-clause-asked g c =
    let m = g.O.UvmObject in
    asked-before m.view m.name m.says c.args.who.now c.args.call.now c.hear.result c.args.sequences.now.held (held_in c.args.seats.now.taken) (held_in c.hear.new.self.taken) c.hear.ensures.asked

pub returns-in-Sequence-clause-asked : goal.returns-in-Sequence-clause-asked
returns-in-Sequence-clause-asked g c =
    let m = g.O.UvmObject in
    asked-behind m.view m.name m.says c.args.who.now c.args.call.now c.hear-in-Sequence.result (held_in c.args.seats.now.taken) c.args.sequences.now.held c.hear-in-Sequence.new.self.held c.hear-in-Sequence.ensures.asked
