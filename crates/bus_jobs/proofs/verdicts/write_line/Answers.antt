use Rattle.bus_jobs.proofs.verdicts.write_line.Goals as goal

pub returns-in-Refused-clause-line : goal.returns-in-Refused-clause-line
returns-in-Refused-clause-line g c = rw c.in-Refused.is (rw c.label-label.ensures at c.writeln.ensures.bytes)

pub returns-in-Broken-clause-line : goal.returns-in-Broken-clause-line
returns-in-Broken-clause-line g c = rw c.in-Broken.is (rw c.message-message.ensures at c.writeln-in-Broken.ensures.bytes)
