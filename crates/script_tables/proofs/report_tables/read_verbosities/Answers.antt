use Rattle.script_tables.proofs.Common.{arith, All-push, HasLevelInRange, numbered, verbosity_row}
use Rattle.script_values.specs.declared.places.TableArray.TheVariants as array
use Rattle.script_tables.proofs.RowsRead.{placed-ok, row-read, sound-ok}
use Rattle.script_tables.proofs.report_tables.read_verbosities.Goals as goal

pub loop-element-preserved : goal.loop-element-preserved
loop-element-preserved c =
    let pushed = c.in_ok-push.ensures.items in (
      row-read (numbered array.Verbosity (λ _. verbosity_row)) _ _ _ _ _ _ _ c.loop-element-test.true c.element-item.is c.loop-element.invariant.0 (placed-ok array.Verbosity _ _ _ _ _ (omega (arith, c.len.ensures, c.loop-element.rows.ok.0)) c.verbosity_row-read.ensures.row c.in_ok-in_row.ensures) pushed,
      rw pushed (All-push HasLevelInRange _ _ c.loop-element.invariant.1 (sound-ok _ array.Verbosity _ _ _ c.verbosity_row-read.ensures.sound c.in_ok-in_row.ensures)),
    )
