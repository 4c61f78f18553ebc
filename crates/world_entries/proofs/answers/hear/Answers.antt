use Rattle.world_entries.proofs.answers.hear.Goals as goal

pub hear_due-requires : goal.hear_due-requires
hear_due-requires c = (c.args.call.now, rw c.in-Some.is at c.requires)

pub returns-in-None : goal.returns-in-None
returns-in-None c = λ acts count. rw c.in-None.is (c.hear_in_turn.ensures acts count)

pub returns-in-Some : goal.returns-in-Some
returns-in-Some c = λ acts count. rw c.in-Some.is (c.hear_due.ensures c.args.call.now acts count)
