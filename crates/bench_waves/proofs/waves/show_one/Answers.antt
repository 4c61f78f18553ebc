use Rattle.std.proofs.Common.{◌≡◌, Some, length, refl, slice_get, sym}
use Rattle.std.proofs.lemmas.Bool.{ltb-true}
use Rattle.std.proofs.lemmas.Option.{slice_get_read}
use Rattle.std.proofs.lemmas.Result.{on_ok_weaker}
use Rattle.bench_waves.proofs.Dumps.{shows-one}
use Rattle.bench_waves.proofs.waves.show_one.Goals as goal

-- the variable is the one at the place
pub returns-in-Some : goal.returns-in-Some
returns-in-Some g c =
    let contents = g.W.Write.contents in
    let there = c.in-Some.ensures.lookup in
    let coded : slice_get c.args.signals.now c.args.place ≡ Some c.in-Some.signal.now =
    slice_get_read c.args.signals.now (length c.args.signals.now) c.args.place c.in-Some.signal.now refl (ltb-true c.args.place (length c.args.signals.now) (sym there.0)) there.1 in
    on_ok_weaker c.show.result
    (shows-one c.args.world.now.script c.args.world.now.history c.args.signals.now c.args.place c.in-Some.signal.now c.args.changes.now c.show.new.self (contents c.args.out.now) (contents c.show.new.out) coded)
    c.show.ensures
