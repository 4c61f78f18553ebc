use Rattle.script_tables.proofs.Common.{◌≡◌, drop, table_view, items_view, numbered, rows_from, action_row, actions_in}
use Rattle.script_values.specs.declared.places.TableArray.TheVariants as array
use Rattle.script_tables.proofs.report_tables.read_actions.Given as goal

-- the rows so far, and those of the elements that are left
abbrev pub invariant-loop-element : goal.invariant-loop-element
invariant-loop-element l =
    actions_in (table_view l.root) ≡ rows_from (numbered array.Action (λ _. action_row)) l.rows.items (items_view (drop l.element-index l.element-items))
