use Rattle.script_tables.proofs.Common.{arith, All-push, CanDrain, numbered, drain_row}
use Rattle.script_values.specs.declared.places.TableArray.TheVariants as array
use Rattle.script_tables.proofs.RowsRead.{placed-ok, row-read, sound-ok}
use Rattle.script_tables.proofs.drains.read_drains.Goals as goal

pub loop-element-preserved : goal.loop-element-preserved
loop-element-preserved c =
    let pushed = c.in_ok-push.ensures.items in (
      row-read (numbered array.Drain (λ _. drain_row)) _ _ _ _ _ _ _ c.loop-element-test.true c.element-item.is c.loop-element.invariant.0 (placed-ok array.Drain _ _ _ _ _ (omega (arith, c.len.ensures, c.loop-element.rows.ok.0)) c.drain_row-read.ensures.row c.in_ok-in_row.ensures) pushed,
      rw pushed (All-push CanDrain _ _ c.loop-element.invariant.1 (sound-ok _ array.Drain _ _ _ c.drain_row-read.ensures.sound c.in_ok-in_row.ensures)),
    )
