use Rattle.script_values.proofs.Common.{◌∙◌, sym, refl}
use Rattle.script_values.proofs.TableKeys.{all_columns}
use Rattle.script_values.proofs.keys.only_columns.Goals as goal

pub returns-then-are_columns : goal.returns-then-are_columns
returns-then-are_columns c =
    let yes = sym (all_columns c.args.columns.now c.args.table.now.entries) ∙ sym c.are_columns.ensures ∙ c.if-are_columns.true in
    rw yes refl

pub returns-else-are_columns : goal.returns-else-are_columns
returns-else-are_columns c =
    let no = sym (all_columns c.args.columns.now c.args.table.now.entries) ∙ sym c.are_columns.ensures ∙ c.if-are_columns.false in
    rw no refl
