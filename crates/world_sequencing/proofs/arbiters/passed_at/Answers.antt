use Rattle.world_sequencing.proofs.arbiters.passed_at.Goals as goal

pub returns-in-Some : goal.returns-in-Some
returns-in-Some c =
    let p = c.passed.ensures.passed in
    rw (← c.in-Some.ensures.value, ← c.arbiter.view_is) (record { within = p.within; blocked = p.blocked })
