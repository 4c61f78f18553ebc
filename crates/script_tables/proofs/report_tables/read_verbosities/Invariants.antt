use Rattle.script_tables.proofs.Common.{◌≡◌, drop, All, table_view, items_view, HasLevelInRange, numbered, rows_from, verbosity_row, verbosities_in}
use Rattle.script_values.specs.declared.places.TableArray.TheVariants as array
use Rattle.script_tables.proofs.report_tables.read_verbosities.Given as goal

-- the rows so far, and those of the elements that are left
abbrev pub invariant-loop-element : goal.invariant-loop-element
invariant-loop-element l =
    (verbosities_in (table_view l.root) ≡ rows_from (numbered array.Verbosity (λ _. verbosity_row)) l.rows.items (items_view (drop l.element-index l.element-items)))
    × All HasLevelInRange l.rows.items
