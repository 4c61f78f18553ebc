use Rattle.bench_world.proofs.Common.{◌∙◌, test_creation, answer-head}
use Rattle.bench_world.proofs.worlds.World.next_left.Goals as goal

-- the act after those that are done
pub returns-in-Some : goal.returns-in-Some
returns-in-Some c =
    let sound = rw (← c.self.view_is) at c.requires in
    let m = c.self.invariant.1.services_match sound in
    rw (← c.self.view_is) (c.stored_act_at.ensures (test_creation c.self.inside.script) ∙ (rw c.in-Some.is at (answer-head c.if-answer.false m.answer)))
