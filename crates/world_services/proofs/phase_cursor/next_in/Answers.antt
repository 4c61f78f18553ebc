use Rattle.world_services.proofs.phase_cursor.next_in.Goals as goal

pub returns-in-Down-clause-next : goal.returns-in-Down-clause-next
returns-in-Down-clause-next c = rw c.in-Down.is c.next_down.ensures.next

pub returns-in-Up-clause-next : goal.returns-in-Up-clause-next
returns-in-Up-clause-next c = rw c.in-Up.is c.next_up.ensures.next
