use Rattle.script_tables.proofs.Common.{◌≡◌, drop, All, table_view, items_view, CanOverride, numbered, rows_from, override_row, overrides_in}
use Rattle.script_values.specs.declared.places.TableArray.TheVariants as array
use Rattle.script_tables.proofs.tables.read_overrides.Given as goal

-- the rows so far, and those of the elements that are left
abbrev pub invariant-loop-element : goal.invariant-loop-element
invariant-loop-element l =
    (overrides_in l.types (table_view l.root) ≡ rows_from (numbered array.Override (λ _. override_row l.types)) l.rows.items (items_view (drop l.element-index l.element-items)))
    × All (CanOverride l.types) l.rows.items
