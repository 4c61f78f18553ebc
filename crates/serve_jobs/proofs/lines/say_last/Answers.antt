use Rattle.serve_jobs.proofs.lines.say_last.Goals as goal

pub returns-in-Faulty-clause-ok : goal.returns-in-Faulty-clause-ok
returns-in-Faulty-clause-ok g c = rw c.in-Faulty.is (c.say_end-in-Faulty.ensures.ok)

pub returns-in-Refused-clause-ok : goal.returns-in-Refused-clause-ok
returns-in-Refused-clause-ok g c = rw c.in-Refused.is (c.say_end-in-Refused.ensures.ok)
