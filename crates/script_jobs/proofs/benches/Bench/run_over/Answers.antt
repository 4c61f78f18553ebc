use Rattle.script_jobs.proofs.ReadRuns.{output-of}
use Rattle.script_jobs.proofs.benches.Bench.run_over.Goals as goal

-- the output failed
pub returns-clause-output : goal.returns-clause-output
returns-clause-output g c = output-of (g.S.Sink.refuses c.args.out.now) c.run_objects-ended.result.0 c.verdict_on.result c.verdict_on.ensures c.run_objects-ended.ensures.output
