use Rattle.script_tables.proofs.Common.{◌≡◌, ◌≤◌, length, drop, table_view, items_view, most_types, numbered, rows_from, type_row, types_in}
use Rattle.script_values.specs.declared.places.TableArray.TheVariants as array
use Rattle.script_tables.proofs.tables.read_types.Given as goal

-- the types so far, and those of the elements that are left
abbrev pub invariant-loop-element : goal.invariant-loop-element
invariant-loop-element l =
    (types_in (table_view l.root) ≡ rows_from (numbered array.Type type_row) l.types (items_view (drop l.element-index l.element-items)))
    × (length l.types ≡ l.element-index)
    × (length l.element-items ≤ most_types)
