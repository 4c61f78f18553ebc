use Rattle.bench_world.proofs.Common.{refl, Passed, Exactly}
use Rattle.bench_world.proofs.Going.{entered}
use Rattle.bench_world.proofs.worlds.World.passed.Goals as goal

pub invariant_of-self-2 : goal.invariant_of-self-2
invariant_of-self-2 c =
    let r = rw (← c.self.view_is) at c.requires in
    let entry = Passed c.args.fifo c.args.passage in
    let entries = rw c.in_ok-passage.ensures at c.in_ok-push.ensures.ok in
    entered (λ _. Exactly entry) entry c.self.invariant r.sound r.room r.next refl entries c.in_ok-push.ensures.limit (λ m. c.clear.ensures.items) (rw c.next_place-place.ensures at c.in_ok-pass_item.ensures)
