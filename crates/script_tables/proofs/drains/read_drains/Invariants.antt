use Rattle.script_tables.proofs.Common.{◌≡◌, drop, All, table_view, items_view, numbered, rows_from, CanDrain, drain_row, drains_in}
use Rattle.script_values.specs.declared.places.TableArray.TheVariants as array
use Rattle.script_tables.proofs.drains.read_drains.Given as goal

-- the rows so far, and those of the elements that are left
abbrev pub invariant-loop-element : goal.invariant-loop-element
invariant-loop-element l =
    (drains_in (table_view l.root) ≡ rows_from (numbered array.Drain (λ _. drain_row)) l.rows.items (items_view (drop l.element-index l.element-items)))
    × All CanDrain l.rows.items
