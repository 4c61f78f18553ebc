use Rattle.bus_jobs.specs.Commands.{words_of}
use Rattle.bus_bench.proofs.Reports.{flushed_or_not, work-kept}
use Rattle.bus_bench.proofs.program.report.Goals as goal

pub returns : goal.returns
returns g c = (
  c.work-verdict.result,
  work-kept (words_of c.args.job.now) c.args.bytes.now _ _ _ c.work-verdict.result c.work-verdict.ensures c.flush.ensures.bytes,
  flushed_or_not c.flush.result c.work-verdict.result c.flushed.result c.flushed.ensures.ok c.flushed.ensures.err,
)
