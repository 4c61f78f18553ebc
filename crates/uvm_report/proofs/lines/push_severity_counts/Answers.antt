use Rattle.uvm_report.proofs.Common.{◌<◌, arith, common_steps, severity_line, length}
use Rattle.uvm_report.proofs.PlainLines.{plain-more}
use Rattle.uvm_report.proofs.lines.push_severity_counts.Goals as goal

pub loop-severity-preserved : goal.loop-severity-preserved
loop-severity-preserved c =
    let within : c.loop-severity.severity-index < length c.args.severities.now = omega arith in (
      grind (arith, common_steps),
      plain-more (severity_line c.args.tally.now.counts) c.args.severities.now c.loop-severity.severity-index _ within c.loop-severity.invariant.1 c.in_ok-push_severity_count.ensures.plain,
    )
