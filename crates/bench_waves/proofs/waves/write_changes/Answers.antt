use Rattle.std.proofs.Common.{◌≡◌, ◌∙◌, nat_eq, refl, subst}
use Rattle.std.specs.HashMap.{get}
use Rattle.bench_history.specs.History.{now_of}
use Rattle.bench_waves.specs.Dumps.{AreLocks, HasGone, IsPast, ShowsMore}
use Rattle.bench_waves.proofs.Waved.{HasShown, past-of, shown-first, shown-more}
use Rattle.bench_waves.proofs.waves.write_changes.Goals as goal

-- before the first entry
pub loop-places-init : goal.loop-places-init
loop-places-init g c =
    let contents = g.W.Write.contents in
    let world = c.in_ok-world_of.field-0.now in
    let same : c.core.result.now ≡ c.args.replay.core = c.core.ensures.core in
    let history : world.history ≡ c.args.replay.core.history = c.in_ok-world_of.ensures.history ∙ rw same refl in
    let script : world.script ≡ c.args.replay.ended.script = c.in_ok-world_of.ensures.script ∙ c.core.ensures.script in
    let past : IsPast c.args.replay.ended.history world.history = past-of c.args.replay.ended.history c.args.replay.ended.history c.core.result.now.history world.history refl c.in_ok-world_of.ensures.history c.core.ensures.part c.core.ensures.few in
    let shows : ShowsMore c.args.replay.ended.script world.history c.args.scope.now.signals.items c.args.changes.now c.show.new.changes (contents c.args.out.now) (contents c.show.new.out) =
    rw (script, c.as_slice-signals.ensures.value) at c.in_ok-show.ensures in
    record {
      ended = refl;
      signals = c.as_slice-signals.ensures.value;
      shown = subst (λ past. HasShown c.args.replay.ended.script c.args.replay.ended.history past c.args.scope.now.signals.items c.args.changes.now.steps (contents c.args.out.now) (contents c.show.new.out) (get nat_eq c.new-locks.result) c.show.new.changes) history
          (shown-first c.args.replay.ended.script c.args.replay.ended.history world.history c.args.scope.now.signals.items (contents c.args.out.now) (contents c.show.new.out) (get nat_eq c.new-locks.result) c.args.changes.now c.show.new.changes
          (history ∙ c.requires.none) (λ home. rw c.new-locks.ensures.empty refl) c.requires.blank c.requires.begin past shows);
    }

-- the locks after the newest entry
pub show-requires-in-loop-places-clause-locks : goal.show-requires-in-loop-places-clause-locks
show-requires-in-loop-places-clause-locks g c =
    let grown = c.in_ok-advance.ensures.made c.if-branch.true in
    let history = c.in_ok-world.ensures.history ∙ rw c.core-in-loop-places.ensures.core refl in
    c.in_ok-go.ensures.locks grown.0 c.loop-places.replay.core.history (history ∙ grown.1) c.loop-places.invariant.shown.locked

-- after one more entry
pub loop-places-preserved : goal.loop-places-preserved
loop-places-preserved g c =
    let contents = g.W.Write.contents in
    let state = c.loop-places.invariant in
    let world = c.in_ok-world.world.now in
    let grown = c.in_ok-advance.ensures.made c.if-branch.true in
    let ended : c.advance.new.self.ended ≡ c.args.replay.ended = c.advance.ensures.ended ∙ state.ended in
    let same : c.core-in-loop-places.result.now ≡ c.advance.new.self.core = c.core-in-loop-places.ensures.core in
    let history : world.history ≡ c.advance.new.self.core.history = c.in_ok-world.ensures.history ∙ rw same refl in
    let script : world.script ≡ c.args.replay.ended.script = c.in_ok-world.ensures.script ∙ c.core-in-loop-places.ensures.script ∙ rw ended refl in
    let past : IsPast c.args.replay.ended.history world.history =
    past-of c.args.replay.ended.history c.advance.new.self.ended.history c.core-in-loop-places.result.now.history world.history (rw ended refl) c.in_ok-world.ensures.history c.core-in-loop-places.ensures.part c.core-in-loop-places.ensures.few in
    let gone : HasGone (now_of world.history) c.loop-places.changes c.go.new.changes = c.in_ok-go.ensures.gone grown.0 c.loop-places.replay.core.history (history ∙ grown.1) state.shown.at in
    let locks : AreLocks (get nat_eq c.go.new.locks) world.history = c.in_ok-go.ensures.locks grown.0 c.loop-places.replay.core.history (history ∙ grown.1) state.shown.locked in
    let shows : ShowsMore c.args.replay.ended.script world.history c.args.scope.now.signals.items c.go.new.changes c.show-in-loop-places.new.changes (contents c.loop-places.out) (contents c.show-in-loop-places.new.out) =
    rw (script, c.as_slice-signals.ensures.value) at c.in_ok-show-2.ensures in
    record {
      ended = ended;
      signals = state.signals;
      shown = subst (λ past. HasShown c.args.replay.ended.script c.args.replay.ended.history past c.args.scope.now.signals.items c.args.changes.now.steps (contents c.args.out.now) (contents c.show-in-loop-places.new.out) (get nat_eq c.go.new.locks) c.show-in-loop-places.new.changes) history
          (shown-more c.args.replay.ended.script c.args.replay.ended.history world.history c.args.scope.now.signals.items c.args.changes.now.steps (contents c.args.out.now) (contents c.loop-places.out) (contents c.show-in-loop-places.new.out) (get nat_eq c.go.new.locks)
          c.loop-places.changes c.go.new.changes c.show-in-loop-places.new.changes state.shown.steps_are state.shown.shown gone locks past shows);
    }
