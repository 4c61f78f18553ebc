use Rattle.script_tables.proofs.Common.{action_set_in}
use Rattle.script_tables.proofs.RowsRead.{cell-read}
use Rattle.script_values.specs.declared.places.Column.TheVariants as column
use Rattle.script_tables.proofs.report_tables.actions_at.Goals as goal

pub returns : goal.returns
returns c = cell-read column.Actions action_set_in _ _ _ _ c.in_ok-required.ensures c.actions.ensures c.in_column.ensures
