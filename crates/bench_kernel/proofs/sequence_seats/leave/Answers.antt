use Rattle.bench_kernel.proofs.Common.{◌≡◌, None, Some, sym, refl, slice_index_or}
use Rattle.bench_kernel.proofs.Sitters.{leaves, number-at}
use Rattle.bench_kernel.proofs.sequence_seats.leave.Goals as goal

pub remove-home-requires : goal.remove-home-requires
remove-home-requires g c =
    let at : slice_index_or c.args.keys.now.items c.args.place None ≡ Some c.in_ok-key.key = sym c.in_ok-key.ensures.key in
    let sits = number-at c.args.taken.now 1 c.args.keys.now.items c.args.place c.in_ok-key.key c.requires at in
    rw sits.there refl

pub returns-clause-some : goal.returns-clause-some
returns-clause-some g c =
    let at : slice_index_or c.args.keys.now.items c.args.place None ≡ Some c.in_ok-key.key = sym c.in_ok-key.ensures.key in
    leaves c.args.taken.now c.remove-home.new.self c.args.keys.now.items c.args.place c.in_ok-key.key c.remove-home.result c.requires at c.remove-home.ensures.value c.remove-home.ensures.updates c.remove-home.ensures.len
