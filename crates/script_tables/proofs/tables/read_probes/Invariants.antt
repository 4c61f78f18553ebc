use Rattle.script_tables.proofs.Common.{◌≡◌, drop, All, table_view, items_view, CanProbe, numbered, rows_from, probe_row, probes_in}
use Rattle.script_values.specs.declared.places.TableArray.TheVariants as array
use Rattle.script_tables.proofs.tables.read_probes.Given as goal

-- the rows so far, and those of the elements that are left
abbrev pub invariant-loop-element : goal.invariant-loop-element
invariant-loop-element l =
    (probes_in l.types (table_view l.root) ≡ rows_from (numbered array.Probe (λ _. probe_row l.types)) l.rows.items (items_view (drop l.element-index l.element-items)))
    × All (CanProbe l.types) l.rows.items
