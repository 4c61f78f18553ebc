use Rattle.bench_world.proofs.Common.{refl, is_some, Granted, Grant, chosen_at}
use Rattle.bench_history.specs.Cases as cases
use Rattle.bench_world.proofs.Going.{due-here, entered}
use Rattle.bench_world.proofs.worlds.World.granted.Goals as goal

pub grant-requires : goal.grant-requires
grant-requires c =
    let r = rw (← c.self.view_is) at c.requires in
    rw c.next_place-place.ensures (due-here (λ history. cases.Grant c.args.sequencer (is_some c.args.word) (chosen_at history c.args.sequencer)) c.self.invariant r.sound r.next)

pub returns-clause-ok : goal.returns-clause-ok
returns-clause-ok c =
    let r = rw (← c.self.view_is) at c.requires in
    let m = c.self.invariant.1.services_match r.sound in
    rw (← c.self.view_is) (c.in_ok-id.id, c.in_ok-id.ensures.chosen c.self.inside.script c.self.inside.log.entries m, rw (c.in_ok-push.ensures.ok, r.sound) refl)

pub invariant_of-self-2 : goal.invariant_of-self-2
invariant_of-self-2 c =
    let r = rw (← c.self.view_is) at c.requires in
    let m = c.self.invariant.1.services_match r.sound in
    let grant : Grant = record { id = c.in_ok-id.id; word = c.args.word } in
    let chosen = c.in_ok-id.ensures.chosen c.self.inside.script c.self.inside.log.entries m in
    entered (λ history. cases.Grant c.args.sequencer (is_some c.args.word) (chosen_at history c.args.sequencer)) (Granted c.args.sequencer grant) c.self.invariant r.sound r.room r.next (grant, refl, chosen, refl) c.in_ok-push.ensures.ok c.in_ok-push.ensures.limit (λ m. c.clear.ensures.items)
    (rw c.next_place-place.ensures at c.in_ok-id.ensures.goes_on)
