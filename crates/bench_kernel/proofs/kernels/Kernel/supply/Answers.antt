use Rattle.bench_kernel.proofs.Common.{◌≡◌, ◌∷◌, refl, sym, rules, IsPermutation, all_held, paths_in, AreSeated, KernelValue, wanted_in, IsKernel, IsSupplied, Health, Bool, ap, subst, failed_of}
use Rattle.bench_kernel.proofs.Failing.{entered-health}
use Rattle.bench_kernel.proofs.Preserved.{below}
use Rattle.bench_kernel.proofs.Sitting.{seated-held}
use Rattle.bench_kernel.proofs.Supplied.{free-now, going-where-needed, is-supplied, kept-supplies}
use Rattle.bench_kernel.proofs.kernels.Kernel.supply.Goals as goal

pub seat-requires-clause-free : goal.seat-requires-clause-free
seat-requires-clause-free g c =
    let m = g.O.UvmObject in
    let k = c.self.inside in
    let kernel : KernelValue g.row.O.Denot = record { core = k.core; held = all_held k.seats.taken k.sequences.held; failed = failed_of k.abandoned k.unknown k.core.health; unknown = k.unknown } in
    let room = c.reserve-room.ensures in
    let taken = c.reserve-room.new.seats.taken in
    let sequences = c.reserve-room.new.sequences in
    let need = c.in-Some.need.now in
    let going = going-where-needed kernel (rw (← c.self.view_is) at c.requires) in
    let under = below c.hold.ensures m.view m.name m.says kernel taken sequences.held (rw (room.taken, room.held) refl) c.self.invariant.0 in
    let seated : AreSeated k.core.history (paths_in taken) sequences.count sequences.held = rw (room.taken, room.count, room.held) c.self.invariant.1 in
    free-now c.hold.ensures m.view m.name m.says kernel need c.made-who.result taken sequences (sym c.in-Some.ensures) c.made-who.ensures.who going seated.started under c.self.invariant.0

pub invariant_of-self-2 : goal.invariant_of-self-2
invariant_of-self-2 g c =
    let m = g.O.UvmObject in
    let k = c.self.inside in
    let kernel : KernelValue g.row.O.Denot = record { core = k.core; held = all_held k.seats.taken k.sequences.held; failed = failed_of k.abandoned k.unknown k.core.health; unknown = k.unknown } in
    let room = c.reserve-room.ensures in
    let taken = c.reserve-room.new.seats.taken in
    let sequences = c.reserve-room.new.sequences in
    let need = c.in-Some.need.now in
    let going = going-where-needed kernel (rw (← c.self.view_is) at c.requires) in
    let under = below c.hold.ensures m.view m.name m.says kernel taken sequences.held (rw (room.taken, room.held) refl) c.self.invariant.0 in
    let seated : AreSeated k.core.history (paths_in taken) sequences.count sequences.held = rw (room.taken, room.count, room.held) c.self.invariant.1 in
    let same : IsPermutation ((c.made-who.result, c.args.object) ∷ kernel.held) (all_held c.seat.new.seats.taken c.seat.new.sequences.held) =
    rw (room.taken, room.held) at (seated-held c.made-who.result c.in-Ok-Ok.path c.args.object taken c.seat.new.seats.taken sequences c.seat.new.sequences c.seat.ensures) in
    let fits : m.name c.args.object ≡ need.type_name = search rules in
    let kept = kept-supplies c.hold.ensures m.view m.name m.says kernel c.made-who.new.self (all_held c.seat.new.seats.taken c.seat.new.sequences.held) taken c.seat.new.seats.taken sequences c.seat.new.sequences c.args.object need c.made-who.result
    c.in-Ok-Ok.path (sym c.in-Some.ensures) c.made-who.ensures.who c.made-who.ensures.entry going fits same c.in-Ok-Ok.ensures c.seat.ensures under (c.self.invariant.0, seated) in
    (subst (λ (failed : Bool). IsKernel m.view m.name m.says (record { core = c.made-who.new.self; held = all_held c.seat.new.seats.taken c.seat.new.sequences.held; failed = failed; unknown = k.unknown })) (sym (ap (λ (health : Health). failed_of k.abandoned k.unknown health) (entered-health _ k.core c.made-who.new.self c.made-who.ensures.entry c.made-who.ensures.one))) kept.0, kept.1)

pub returns-clause-ok : goal.returns-clause-ok
returns-clause-ok g c =
    let m = g.O.UvmObject in
    let k = c.self.inside in
    let kernel : KernelValue g.row.O.Denot = record { core = k.core; held = all_held k.seats.taken k.sequences.held; failed = failed_of k.abandoned k.unknown k.core.health; unknown = k.unknown } in
    let room = c.reserve-room.ensures in
    let taken = c.reserve-room.new.seats.taken in
    let sequences = c.reserve-room.new.sequences in
    let need = c.in-Some.need.now in
    let same : IsPermutation ((c.made-who.result, c.args.object) ∷ kernel.held) (all_held c.seat.new.seats.taken c.seat.new.sequences.held) =
    rw (room.taken, room.held) at (seated-held c.made-who.result c.in-Ok-Ok.path c.args.object taken c.seat.new.seats.taken sequences c.seat.new.sequences c.seat.ensures) in
    let fits : m.name c.args.object ≡ wanted_in kernel = search rules in
    rw (← c.self.view_is)
    (subst (λ (failed : Bool). IsSupplied m.view m.name m.says c.args.object kernel (record { core = c.made-who.new.self; held = all_held c.seat.new.seats.taken c.seat.new.sequences.held; failed = failed; unknown = k.unknown })) (sym (ap (λ (health : Health). failed_of k.abandoned k.unknown health) (entered-health _ k.core c.made-who.new.self c.made-who.ensures.entry c.made-who.ensures.one)))
    (is-supplied m.view m.name m.says kernel c.made-who.new.self (all_held c.seat.new.seats.taken c.seat.new.sequences.held) c.args.object c.made-who.result fits c.made-who.ensures.who c.made-who.ensures.one c.made-who.ensures.entry same))
