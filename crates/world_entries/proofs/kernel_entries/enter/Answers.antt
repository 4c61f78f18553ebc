use Rattle.world_entries.proofs.kernel_entries.enter.Goals as goal

pub returns-in-Begin-clause-goes_on : goal.returns-in-Begin-clause-goes_on
returns-in-Begin-clause-goes_on c = rw c.in-Begin.is (c.begin.ensures c.args.place)

pub returns-in-Time-clause-goes_on : goal.returns-in-Time-clause-goes_on
returns-in-Time-clause-goes_on c = rw c.in-Time.is (c.pass_time.ensures c.args.place)

pub returns-in_ok-note-in-Note-clause-goes_on : goal.returns-in_ok-note-in-Note-clause-goes_on
returns-in_ok-note-in-Note-clause-goes_on c = rw c.in-Note.is (c.in_ok-note-in-Note.ensures c.args.place)

pub returns-in-Over-clause-goes_on : goal.returns-in-Over-clause-goes_on
returns-in-Over-clause-goes_on c = rw c.in-Over.is (c.finish.ensures c.in-Over.reason c.args.place)
