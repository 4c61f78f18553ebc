use Rattle.std.proofs.Common.{◌≡◌, ◌∙◌}
use Rattle.std.proofs.lemmas.Result.{on_ok_weaker}
use Rattle.bench_waves.specs.Dumps.{HasDump}
use Rattle.bench_waves.proofs.Waved.{waved}
use Rattle.bench_waves.proofs.waves.write_waves.Goals as goal

-- the head, the changes, and the last time
pub returns : goal.returns
returns g c =
    let contents = g.W.Write.contents in
    let ended : c.in-Ok.replay.ended ≡ c.args.core.now = c.in-Ok.ensures.0 in
    let changes = c.write_changes.new.changes in
    let shown : HasDump c.args.core.now.script c.args.core.now.history c.in_ok-scope.scope.signals.items (contents c.write_all.new.self) (contents c.write_changes.new.out) changes = rw ended at c.in_ok-write_changes.ensures.shown in
    on_ok_weaker c.finish.result
    (λ ends sound. waved c.args.core.now.script c.args.core.now.history c.in_ok-scope.scope.signals.items c.args.steps c.in_ok-head.head.items (contents c.args.out.now) (contents c.write_all.new.self) (contents c.write_changes.new.out) (contents c.finish.new.out)
    changes (c.in_ok-write_changes.ensures.steps ∙ c.in_ok-changes.ensures.steps) (rw c.as_slice-2.ensures.value at c.in_ok-write_all.ensures.bytes) shown c.in_ok-write_changes.ensures.within ends)
    c.finish.ensures
