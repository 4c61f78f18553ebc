use Rattle.script_tables.proofs.Common.{◌≡◌, ◌≤◌, length, drop, table_view, items_view, most_settings, numbered, rows_from, setting_row, settings_in}
use Rattle.script_values.specs.declared.places.TableArray.TheVariants as array
use Rattle.script_tables.proofs.tables.read_settings.Given as goal

-- the rows so far, and those of the elements that are left
abbrev pub invariant-loop-element : goal.invariant-loop-element
invariant-loop-element l =
    (settings_in (table_view l.root) ≡ rows_from (numbered array.Set (λ _. setting_row)) l.rows.items (items_view (drop l.element-index l.element-items)))
    × (length l.rows.items ≡ l.element-index)
    × (length l.element-items ≤ most_settings)
