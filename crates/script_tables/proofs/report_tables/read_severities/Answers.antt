use Rattle.script_tables.proofs.Common.{arith, numbered, severity_row}
use Rattle.script_values.specs.declared.places.TableArray.TheVariants as array
use Rattle.script_tables.proofs.RowsRead.{placed-ok, row-read}
use Rattle.script_tables.proofs.report_tables.read_severities.Goals as goal

pub loop-element-preserved : goal.loop-element-preserved
loop-element-preserved c = row-read (numbered array.Severity (λ _. severity_row)) _ _ _ _ _ _ _ c.loop-element-test.true c.element-item.is c.loop-element.invariant (placed-ok array.Severity _ _ _ _ _ (omega (arith, c.len.ensures, c.loop-element.rows.ok.0)) c.severity_row-read.ensures c.in_ok-in_row.ensures) c.in_ok-push.ensures.items
