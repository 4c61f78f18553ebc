use Rattle.script_tables.proofs.Common.{arith, All-push, CanProbe, numbered, probe_row}
use Rattle.script_values.specs.declared.places.TableArray.TheVariants as array
use Rattle.script_tables.proofs.RowsRead.{placed-ok, row-read, sound-ok}
use Rattle.script_tables.proofs.tables.read_probes.Goals as goal

pub loop-element-preserved : goal.loop-element-preserved
loop-element-preserved c =
    let types = c.args.types.now in
    let pushed = c.in_ok-push.ensures.items in (
      row-read (numbered array.Probe (λ _. probe_row types)) _ _ _ _ _ _ _ c.loop-element-test.true c.element-item.is c.loop-element.invariant.0 (placed-ok array.Probe _ _ _ _ _ (omega (arith, c.len.ensures, c.loop-element.rows.ok.0)) c.probe_row-read.ensures.row c.in_ok-in_row.ensures) pushed,
      rw pushed (All-push (CanProbe types) _ _ c.loop-element.invariant.1 (sound-ok _ array.Probe _ _ _ c.probe_row-read.ensures.sound c.in_ok-in_row.ensures)),
    )
