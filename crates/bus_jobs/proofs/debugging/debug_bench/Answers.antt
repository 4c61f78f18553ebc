use Rattle.bus_jobs.proofs.debugging.debug_bench.Goals as goal

pub returns-in-Ok-clause-run : goal.returns-in-Ok-clause-run
returns-in-Ok-clause-run g c = rw c.in-Ok.ensures.reading c.in-Err-answer.ensures.err
